use Rattle.std.{proofs.Common.{◌≡◌, ◌+◌, ◌≤◌, ◌++◌, length, map, vec_capacity}, specs.Vec.Iter.{into_iter_items, into_iter_len}}
use Rattle.plain_layers.specs.QLocks.{at_rest}
use Rattle.plain_layers.proofs.qlock_edits.plain_locks.Given as goal

abbrev pub invariant-loop-above : goal.invariant-loop-above
invariant-loop-above g l = (l.made.items ++ map at_rest (into_iter_items l.above-iterator) ≡ map at_rest l.fn.blocks.items)
    × (length l.made.items + into_iter_len l.above-iterator ≤ vec_capacity l.made)
