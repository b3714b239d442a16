use Rattle.std.proofs.Common.{◌≡◌, vec_capacity}
use Rattle.cpu_workers.{specs.Natives.HasLeftMachine, proofs.Filling.Filling}
use Rattle.cpu_workers.proofs.natives.seating.all_left.Given as goal

abbrev pub invariant-loop-one : goal.invariant-loop-one
invariant-loop-one g l = Filling (λ d x. HasLeftMachine d.caller.value (g.I.CallLayer.acts x.machine) (g.I.CallLayer.machine_id x.machine)
    × g.I.CallLayer.ActsFor x.machine d.caller.value.cpu × (x.native ≡ d.native)) l.fn.done.items l.yielded l.one-iterator.rest.items l.left.items
    (vec_capacity l.left)
