use Rattle.std.{proofs.Common.{◌≡◌, Some, drop, length, vec_capacity}, specs.Prelude.slice_get}
use Rattle.{layer_traits.specs.Threads.OnePlace.cpu_at, cpu_workers.{specs.{Seating.IsAtBoot, Working.Working}, proofs.Filling.Numbered}}
use Rattle.cpu_workers.proofs.workers.seating.workers_over.Given as goal

abbrev pub invariant-loop-number : goal.invariant-loop-number
invariant-loop-number g l = record {
  machines_left : l.machines.items ≡ drop l.number l.fn.machines.items;
  workers : Numbered (λ k (w : Working). IsAtBoot l.boot (cpu_at k) w
      × ((m : g.row.I-Machine.Denot) → slice_get l.fn.machines.items k ≡ Some m → w.machine_id ≡ g.I.CallLayer.machine_id m)) l.workers.items l.number
      (length l.fn.machines.items) (vec_capacity l.workers);
}
