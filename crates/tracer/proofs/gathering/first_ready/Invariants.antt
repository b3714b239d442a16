use Rattle.tracer.specs.Gather.{traces_in, NoneDueBelow}
use Rattle.tracer.proofs.gathering.first_ready.Given as goal

abbrev pub invariant-loop-i : goal.invariant-loop-i
invariant-loop-i l = NoneDueBelow (traces_in l.traces) l.taken l.counts l.i
