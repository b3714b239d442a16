use Rattle.std.proofs.Common.{◌≡◌, All, vec_capacity}
use Rattle.{table_machine.specs.SeatViews.IsOf, cpu_workers.proofs.Filling.Filling}
use Rattle.cpu_workers.proofs.workers.run.seats_at.Given as goal

abbrev pub invariant-loop-key : goal.invariant-loop-key
invariant-loop-key g l = record {
  ready : All (IsOf l.shared) l.key-iterator.rest.items;
  seats : Filling (λ key seat. seat ≡ key) l.fn.keys.items l.yielded l.key-iterator.rest.items l.seats.items (vec_capacity l.seats);
}
