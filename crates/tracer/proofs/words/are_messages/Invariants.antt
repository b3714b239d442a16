use Rattle.std.{proofs.Common.{◌≡◌, length}, specs.List.list_all}
use Rattle.tracer.specs.{Judging.spells_message, Lines.left_of}
use Rattle.tracer.proofs.words.are_messages.Given as goal

abbrev pub invariant-loop-front : goal.invariant-loop-front
invariant-loop-front l = list_all (spells_message l.version) (left_of l.pieces) ≡ list_all (spells_message l.version) (left_of l.fn.pieces)

abbrev pub decreases-loop-front : goal.decreases-loop-front
decreases-loop-front l = length (left_of l.pieces)
