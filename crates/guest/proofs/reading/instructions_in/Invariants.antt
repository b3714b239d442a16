use Rattle.guest.proofs.ProgramLemmas.{ReadSoFar}
use Rattle.guest.proofs.reading.instructions_in.Given as goal

abbrev pub invariant-loop-index : goal.invariant-loop-index
invariant-loop-index l = ReadSoFar (λ line. line.now) l.lines l.index l.instructions.items
