use Rattle.std.proofs.Common.{◌≡◌, vec_capacity}
use Rattle.cpu_workers.proofs.Filling.{Filling}
use Rattle.cpu_workers.proofs.workers.run.parted.Given as goal

abbrev pub invariant-loop-one : goal.invariant-loop-one
invariant-loop-one g l = record {
  keys : Filling (λ x key. key ≡ x.machine) l.fn.left.items l.yielded l.one-iterator.rest.items l.keys.items (vec_capacity l.keys);
  traces : Filling (λ x trace. trace.items ≡ x.trace.items) l.fn.left.items l.yielded l.one-iterator.rest.items l.traces.items (vec_capacity l.traces);
  stops : Filling (λ x stop. stop ≡ x.did.stop) l.fn.left.items l.yielded l.one-iterator.rest.items l.stops.items (vec_capacity l.stops);
  taken : Filling (λ x taken. taken ≡ x.did.taken) l.fn.left.items l.yielded l.one-iterator.rest.items l.taken.items (vec_capacity l.taken);
}
