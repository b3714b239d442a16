use Rattle.std.proofs.Common.{◌≡◌, ◌++◌, length}
use Rattle.thread_blocks.specs.Queues.{AreApart}
use Rattle.thread_blocks.proofs.lists.ThreadList.drain_into.Given as goal

-- the threads not moved yet follow those that were
abbrev pub invariant-loop-thread : goal.invariant-loop-thread
invariant-loop-thread l = (l.to ++ l.self ≡ l.fn.to ++ l.fn.self) × AreApart l.self l.to

abbrev pub decreases-loop-thread : goal.decreases-loop-thread
decreases-loop-thread l = length l.self
