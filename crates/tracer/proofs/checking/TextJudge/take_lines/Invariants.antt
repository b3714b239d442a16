-- The rest of the lines is still to be judged, and is shorter each time.
use Rattle.{std.proofs.Common.{length, take}, tracer.proofs.PartLemmas.AreTakenTo}
use Rattle.tracer.proofs.checking.TextJudge.take_lines.Given as goal

abbrev pub invariant-loop-rest : goal.invariant-loop-rest
invariant-loop-rest l = AreTakenTo l.initial.self (take l.end l.part) l.self l.rest

abbrev pub decreases-loop-rest : goal.decreases-loop-rest
decreases-loop-rest l = length l.rest
