use Rattle.std.proofs.Common.{◌≡◌, ◌+◌, ◌≤◌, length}
use Rattle.tracer.specs.Judging.{comma_parts}
use Rattle.tracer.proofs.words.word_count.Given as goal

abbrev pub invariant-loop-after : goal.invariant-loop-after
invariant-loop-after l = (l.count + length (comma_parts l.rest) ≡ length (comma_parts l.fn.piece) + 1) × (l.count + length l.rest ≤ length l.fn.piece + 1)

abbrev pub decreases-loop-after : goal.decreases-loop-after
decreases-loop-after l = length l.rest
