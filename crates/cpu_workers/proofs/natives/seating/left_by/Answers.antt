use Rattle.{std.proofs.Common.subst, cpu_workers.specs.{Callers.CallerView, Natives.HasLeftMachine}}
use Rattle.cpu_workers.proofs.natives.seating.left_by.Goals as goal

pub returns-clause-machine : goal.returns-clause-machine
returns-clause-machine g c =
    let e = c.into_machine.ensures in
    subst (λ (v : CallerView). HasLeftMachine v (g.I.CallLayer.acts c.into_machine.result) (g.I.CallLayer.machine_id c.into_machine.result))
    c.into_inner.ensures
    (record { site_is = e.machine_id; few = e.few; trace = e.trace c.requires.stepwise; rests = e.rests c.requires.stepwise })
