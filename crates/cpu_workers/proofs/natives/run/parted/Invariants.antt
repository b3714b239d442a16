use Rattle.std.proofs.Common.{◌≡◌, vec_capacity}
use Rattle.cpu_workers.proofs.Filling.{Filling}
use Rattle.cpu_workers.proofs.natives.run.parted.Given as goal

abbrev pub invariant-loop-one : goal.invariant-loop-one
invariant-loop-one g l = record {
  keys : Filling (λ x key. key ≡ x.machine) l.fn.left.items l.yielded l.one-iterator.rest.items l.keys.items (vec_capacity l.keys);
  natives : Filling (λ x native. native ≡ x.native) l.fn.left.items l.yielded l.one-iterator.rest.items l.natives.items (vec_capacity l.natives);
}
