use Rattle.std.{proofs.Common.{◌≡◌, length}, specs.List.list_all}
use Rattle.tracer.specs.{Judging.is_within, Lines.left_of}
use Rattle.tracer.proofs.words.are_within.Given as goal

abbrev pub invariant-loop-front : goal.invariant-loop-front
invariant-loop-front l = list_all is_within (left_of l.pieces) ≡ list_all is_within (left_of l.fn.pieces)

abbrev pub decreases-loop-front : goal.decreases-loop-front
decreases-loop-front l = length (left_of l.pieces)
