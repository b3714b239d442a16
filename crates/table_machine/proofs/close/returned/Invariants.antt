use Rattle.std.{proofs.Common.{◌≡◌, ℕ, ◌<◌, ◌≤◌, false, length, get_or, Some, vec_capacity}, specs.Mem.Slots.{slots_items, slots_filled, slots_len}}
use Rattle.{std.specs.Mem.Slots.Ownership.Filled, event_log.specs.declared.ids.LockId.LockId, table_machine.specs.declared.views.Home.Home}
use mathlib.Core.Option.{some}
use lib.ListN.{get_elem?}
use Rattle.table_machine.proofs.close.returned.Given as goal

abbrev pub invariant-loop-i : goal.invariant-loop-i
invariant-loop-i g l = record {
  filled : Filled (slots_filled l.closed.slots) l.i (slots_len l.closed.slots);
  emptied : (k : ℕ) → k < l.i → get_or (slots_filled l.closed.slots) k false ≡ false;
  same : slots_items l.closed.slots ≡ slots_items l.initial.closed.slots;
  count : slots_len l.closed.slots ≡ length l.locks.items;
  given : length l.blocks.items ≡ l.i;
  room : length l.locks.items ≤ vec_capacity l.blocks;
  done : (i : ℕ) (lock : LockId) (y : Home _ _) (b : _) → i < l.i → get_elem? l.locks.items i ≡ some lock
      → get_elem? (slots_items l.initial.closed.slots) i ≡ some y → y.block ≡ Some b → get_elem? l.blocks.items i ≡ some (lock, b);
}
