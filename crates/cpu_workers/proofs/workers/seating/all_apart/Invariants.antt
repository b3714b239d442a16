use Rattle.std.proofs.Common.{◌≡◌, vec_capacity}
use Rattle.cpu_workers.{specs.Seating.IsApart, proofs.Filling.Filling}
use Rattle.cpu_workers.proofs.workers.seating.all_apart.Given as goal

abbrev pub invariant-loop-one : goal.invariant-loop-one
invariant-loop-one g l = Filling (λ d x. IsApart d.worker (g.I.CallLayer.acts x.machine) (g.I.CallLayer.machine_id x.machine) x.trace.items
    × g.I.CallLayer.ActsFor x.machine d.worker.cpu × (x.did ≡ d.did)) l.fn.came.items l.yielded l.one-iterator.rest.items l.left.items (vec_capacity l.left)
