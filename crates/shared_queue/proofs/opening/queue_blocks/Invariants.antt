use Rattle.std.{proofs.Common.{◌≡◌, ◌+◌, ◌≤◌, ◌++◌, length, vec_len, vec_capacity}, specs.Vec.Iter.into_iter_items}
use Rattle.shared_queue.specs.Opening.{buffers_from}
use Rattle.shared_queue.proofs.opening.queue_blocks.Given as goal

abbrev pub invariant-loop-above : goal.invariant-loop-above
invariant-loop-above g l
    = (l.locks.items ++ buffers_from l.number (into_iter_items l.above-iterator) ≡ l.initial.locks.items ++ buffers_from 0 l.fn.blocks.items)
    × (vec_len l.locks ≡ l.cpus + l.number) × (l.number + length (into_iter_items l.above-iterator) ≡ length l.fn.blocks.items)
    × (l.cpus + length l.fn.blocks.items ≤ vec_capacity l.locks)
