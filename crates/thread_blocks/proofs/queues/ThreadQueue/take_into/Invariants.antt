use Rattle.std.proofs.Common.{◌≡◌, ◌++◌, length}
use Rattle.thread_blocks.specs.Queues.{AreApart}
use Rattle.thread_blocks.proofs.queues.ThreadQueue.take_into.Given as goal

-- the threads not taken yet follow those that were
abbrev pub invariant-loop-t : goal.invariant-loop-t
invariant-loop-t l = (l.to ++ l.self ≡ l.fn.self) × AreApart l.self l.to

abbrev pub decreases-loop-t : goal.decreases-loop-t
decreases-loop-t l = length l.self
