use Rattle.mctower.proofs.tell.refusal_lines.write_fault.Goals as goal

pub returns-in-NotText : goal.returns-in-NotText
returns-in-NotText g c = rw c.in-NotText.is (rw c.new.ensures at c.put_fault.ensures)

pub returns-in-NoCommand : goal.returns-in-NoCommand
returns-in-NoCommand g c = rw c.in-NoCommand.is (rw c.new-in-NoCommand.ensures at c.put_fault-in-NoCommand.ensures)
