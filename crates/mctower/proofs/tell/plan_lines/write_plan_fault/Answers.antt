use Rattle.mctower.proofs.tell.plan_lines.write_plan_fault.Goals as goal

pub returns-in-NoMemory : goal.returns-in-NoMemory
returns-in-NoMemory g c = rw c.in-NoMemory.is c.tell_text.ensures

pub returns-in-BadToml : goal.returns-in-BadToml
returns-in-BadToml g c = rw c.in-BadToml.is c.tell_text-in-BadToml.ensures

pub returns-in-MissingKey : goal.returns-in-MissingKey
returns-in-MissingKey g c = rw c.in-MissingKey.is c.write_key.ensures

pub returns-in-OutOfRange : goal.returns-in-OutOfRange
returns-in-OutOfRange g c = rw c.in-OutOfRange.is c.write_key-in-OutOfRange.ensures

pub returns-in-Guest : goal.returns-in-Guest
returns-in-Guest g c = rw c.in-Guest.is c.put_guest.ensures
