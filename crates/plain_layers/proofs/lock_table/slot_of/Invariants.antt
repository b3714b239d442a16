use Rattle.std.proofs.Common.{drop, IsSome, ℕ, ◌+◌}
use Rattle.{layer_traits.specs.Protocols.OneLock.opened, plain_layers.specs.Tables.IsSlot}
use Rattle.plain_layers.proofs.lock_table.slot_of.Given as goal

abbrev pub invariant-loop-i : goal.invariant-loop-i
invariant-loop-i g l = record {
  there : IsSome (opened (drop l.i l.blocks) l.lock);
  slot : (n : ℕ) → IsSlot l.lock n (drop l.i l.blocks) → IsSlot l.lock (l.i + n) l.blocks;
}
