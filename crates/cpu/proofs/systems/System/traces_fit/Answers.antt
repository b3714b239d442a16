use Rattle.std.proofs.Common.{◌≤◌, length, subst, arith}
use Rattle.cpu.{specs.{Quiescent.TracesFit, Claims.{CpuView, SystemView}}, proofs.{ListFacts.ListReads.shown_at, OverLayer.SystemOverLayer.shown_by}}
use Rattle.cpu.proofs.systems.System.traces_fit.Goals as goal

pub returns : goal.returns
returns g c =
    subst (λ (s : SystemView). TracesFit s) c.self.view_is
    (shown_at (shown_by g.I.CallLayer) (λ k (p : CpuView). length p.trace ≤ p.limit) c.self.inside.cpus.items
    (λ k x at. let is = (c.self.invariant.each k x at).holds.2 in let room = is.room in omega (arith, room)))
