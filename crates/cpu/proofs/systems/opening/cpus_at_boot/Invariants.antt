use Rattle.std.{proofs.Common.{◌≡◌, ◌≤◌, ℕ, [], Some, drop, length, map, vec_capacity}, specs.Prelude.{slice_get, slice_index_or}}
use Rattle.{layer_traits.specs.Blocks.Capacities.caps_in, cpu.specs.{declared.cpus.Cpu.Cpu, Boots.IsBootedAs}}
use Rattle.cpu.proofs.systems.opening.cpus_at_boot.Given as goal

abbrev pub invariant-loop-number : goal.invariant-loop-number
invariant-loop-number g l = record {
  tables_left : l.tables.items ≡ drop l.number l.fn.tables.items;
  so_many : length l.cpus.items ≡ l.number;
  has_room : length l.fn.tables.items ≤ vec_capacity l.cpus;
  booted : (k : ℕ) (x : Cpu g.row.I.Denot g.row.I-Machine.Denot) → slice_get l.cpus.items k ≡ Some x
      → IsBootedAs (λ p m. g.I.CallLayer.Coupled p m) (λ m d. g.I.CallLayer.IsFresh m l.homes d) (λ m. length (caps_in (g.I.CallLayer.opening m))) l.buffers
      l.homes k (slice_index_or (map (λ table. table.items) l.fn.tables.items) k []) l.limit x.part (g.I.CallLayer.cpu_of x.part) (g.I.CallLayer.local x.part)
      (g.I.CallLayer.under_way x.part) x.number x.guests.items x.trace.items x.limit (vec_capacity x.trace);
}
