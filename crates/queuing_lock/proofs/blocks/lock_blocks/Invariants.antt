use Rattle.std.{proofs.Common.{◌≡◌, ◌+◌, ◌≤◌, ◌++◌, length, map, vec_capacity}, specs.Vec.Iter.{into_iter_items, into_iter_len}}
use Rattle.queuing_lock.specs.Nested.{unowned}
use Rattle.queuing_lock.proofs.blocks.lock_blocks.Given as goal

abbrev pub invariant-loop-above : goal.invariant-loop-above
invariant-loop-above g l = (l.made.items ++ map unowned (into_iter_items l.above-iterator) ≡ map unowned l.fn.blocks.items)
    × (length l.made.items + into_iter_len l.above-iterator ≤ vec_capacity l.made)
