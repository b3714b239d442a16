use Rattle.std.proofs.Common.{◌≡◌, ◌+◌, ◌*◌, ◌≤◌, ◌++◌, length}
use Rattle.thread_blocks.specs.Queues.{AreApart}
use Rattle.thread_blocks.proofs.queues.ThreadQueue.drain_in.Given as goal

-- the threads not moved yet follow those that were, and are paid for
abbrev pub invariant-loop-t : goal.invariant-loop-t
invariant-loop-t g l = record {
  whole : l.to ++ l.self ≡ l.fn.to ++ l.fn.self;
  apart : AreApart l.self l.to;
  cost : l.ticks + 16 * length l.self ≤ l.fn.ticks + 16 * length l.fn.self;
}

abbrev pub decreases-loop-t : goal.decreases-loop-t
decreases-loop-t g l = length l.self
