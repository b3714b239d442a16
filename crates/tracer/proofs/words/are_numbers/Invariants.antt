use Rattle.std.{proofs.Common.{◌≡◌, length}, specs.List.list_all}
use Rattle.{event_log.specs.Digits.is_number, tracer.specs.Judging.comma_parts}
use Rattle.tracer.proofs.words.are_numbers.Given as goal

abbrev pub invariant-loop-front : goal.invariant-loop-front
invariant-loop-front l = list_all is_number (comma_parts l.rest) ≡ list_all is_number (comma_parts l.fn.piece)

abbrev pub decreases-loop-front : goal.decreases-loop-front
decreases-loop-front l = length l.rest
