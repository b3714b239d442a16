use Rattle.boot.proofs.CapsLemmas.{CapsSoFar}
use Rattle.boot.proofs.numbers.caps_of.Given as goal

abbrev pub invariant-loop-integer : goal.invariant-loop-integer
invariant-loop-integer l = CapsSoFar l.integers l.integer-index l.caps.items
