use Rattle.std.proofs.{Common.{List, length, ap, ◌∙◌, subst, arith, length-drop}, lemmas.List.{take_all, take_rest}}
use Rattle.{event_log.specs.declared.ids.CpuId.CpuId, cpu.proofs.{WholeSystems.RealTime.linear_ran, StepTable.Schedules.{Leads, leads_nowhere, leads_on}}}
use Rattle.cpu.{proofs.StepTable.Schedules.taken_on, specs.Systems.Ran}
use Rattle.cpu.proofs.systems.System.run.Goals as goal

pub loop-at-init : goal.loop-at-init
loop-at-init g c = record { within = omega arith; leads = leads_nowhere g.I.CallLayer.IsStepwise c.args.self.now }

pub loop-at-preserved : goal.loop-at-preserved
loop-at-preserved g c =
    let S = g.I.CallLayer.IsStepwise in
    let all = c.args.steps.now in
    let at = c.loop-at.at in
    let e = c.turn-at.ensures in
    let within = c.loop-at.invariant.within in
    record {
      within = omega (arith, within, e.few, ap (λ (l : List CpuId). length l) (take_rest all at) ∙ length-drop at all);
      leads = subst (λ (l : List CpuId). Leads S c.args.self.now l c.turn-at.new.self) (taken_on all at c.turn-at.result)
          (leads_on S c.args.self.now c.loop-at.self c.turn-at.new.self _ _ c.loop-at.invariant.leads
          (record { plan = e.plan; ran = e.ran; table = e.table }));
    }

pub returns-clause-linear : goal.returns-clause-linear
returns-clause-linear g c =
    let all = c.args.steps.now in
    let whole = take_all c.loop-at.at all (omega (arith, c.loop-at-test.false)) in
    linear_ran (subst (λ (l : List CpuId). Ran g.I.CallLayer.IsStepwise c.args.self.now l c.loop-at.self) whole c.loop-at.invariant.leads.ran)
