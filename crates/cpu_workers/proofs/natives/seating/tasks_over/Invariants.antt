use Rattle.std.{proofs.Common.{◌≡◌, Some, drop, length, vec_capacity}, specs.Prelude.slice_get}
use Rattle.{layer_traits.specs.Threads.OnePlace.cpu_at, cpu_workers.{specs.Natives.IsNewCaller, proofs.Filling.Numbered}}
use Rattle.cpu_workers.proofs.natives.seating.tasks_over.Given as goal

abbrev pub invariant-loop-number : goal.invariant-loop-number
invariant-loop-number g l = record {
  machines_left : l.machines.items ≡ drop l.number l.fn.machines.items;
  natives_left : l.natives.items ≡ drop l.number l.fn.natives.items;
  tasks : Numbered (λ k t. IsNewCaller l.caps (cpu_at k) t.caller.value × (slice_get l.fn.natives.items k ≡ Some t.native)
      × ((m : g.row.I-Machine.Denot) → slice_get l.fn.machines.items k ≡ Some m → t.caller.value.machine_id ≡ g.I.CallLayer.machine_id m)) l.tasks.items
      l.number
      (length l.fn.machines.items) (vec_capacity l.tasks);
}
