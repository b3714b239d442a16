use Rattle.{std.proofs.Common.subst, event_log.specs.declared.ids.CpuId.CpuId}
use Rattle.cpu_workers.proofs.workers.worker.Worker.into_parts.Goals as goal

pub returns-clause-owns : goal.returns-clause-owns
returns-clause-owns g c =
    let m = c.self.inside.machine in
    let is = c.self.invariant in
    rw (← c.self.view_is) (subst (λ (d : CpuId). g.I.CallLayer.ActsFor m d) is.number (g.met.I.CallLayer.own_cpu c.self.inside.cpu.part m is.coupled))
