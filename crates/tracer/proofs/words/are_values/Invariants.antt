use Rattle.std.proofs.Common.{◌≡◌, drop}
use Rattle.tracer.specs.{Judging.are_values, Lines.left_of}
use Rattle.tracer.proofs.words.are_values.Given as goal

abbrev pub invariant-loop-message : goal.invariant-loop-message
invariant-loop-message l = are_values (left_of l.pieces) (drop l.message-index l.messages) ≡ are_values (left_of l.fn.pieces) l.messages
