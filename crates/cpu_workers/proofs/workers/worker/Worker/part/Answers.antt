use Rattle.std.proofs.Common.{ap, sym, ◌∙◌}
use Rattle.{event_log.{specs.{declared.ids.CpuId.CpuId, Actions.phase}, proofs.Renaming.phase_renamed}, layer_traits.specs.Polling.Plans.is_in_section}
use Rattle.cpu.specs.Tower.Views.{name_of}
use Rattle.cpu_workers.proofs.workers.worker.Worker.part.Goals as goal

pub returns : goal.returns
returns g c =
    let acts = g.I.CallLayer.acts c.self.inside.machine in
    let p = c.self.inside.cpu in
    let is = c.self.invariant in
    rw (← c.self.view_is) (g.met.I.CallLayer.busy p.part c.self.inside.machine is.coupled is.stepwise
    ∙ (ap (λ (d : CpuId). is_in_section (phase d acts)) is.number ∙ ap is_in_section (sym (phase_renamed name_of p.number acts))))
