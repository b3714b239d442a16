use Rattle.std.proofs.Common.{◌<◌, rules, ap, sym, ◌∙◌, subst, arith}
use Rattle.{event_log.{specs.{declared.ids.CpuId.CpuId, Actions.phase}, proofs.Renaming.phase_renamed}, layer_traits.specs.Polling.Plans.is_in_section}
use Rattle.{layer_traits.specs.Blocks.{Capacities.caps_in, QueueBlocks.homes_in}, cpu.{specs.Tower.Views.name_of, proofs.StepTable.TableRows.halted_same}}
use Rattle.cpu.proofs.{CpuSteps.CpuRuns.runs_agree, OverLayer.CpuOverLayer.{laws_of, layered, runs_within, tabled_cpu}}
use Rattle.{cpu.specs.Table.Setups.SystemConfig, cpu_workers.specs.Working.{IsPlanned, MayStep, TookTurns, Working}}
use Rattle.cpu_workers.proofs.{Planning.table_planned, RunsOfTurns.{opens_same, stops_as_told, turns_of}}
use Rattle.cpu_workers.proofs.workers.worker.Worker.turns.Goals as goal

pub reason-requires : goal.reason-requires
reason-requires g c =
    let is = c.self.invariant in
    runs_within (layered (laws_of g.met.I.CallLayer) c.self.inside.machine c.self.inside.cpu
    (record { coupled = is.coupled; number = is.number; is = is.is; table = λ step. is.tabled }))

pub returns-then-is_some-clause-took : goal.returns-then-is_some-clause-took
returns-then-is_some-clause-took g c = TookTurns.no_turns

pub run-requires : goal.run-requires
run-requires g c =
    let is = c.self.invariant in
    let some = is.room.0 in
    record {
      agrees = record { coupled = is.coupled; number = is.number; is = is.is; table = λ step. is.tabled };
      some = grind (arith, some);
      room = grind (arith, some, is.room.1 c.self.inside.machine);
      live = search rules;
    }

pub invariant_of-self : goal.invariant_of-self
invariant_of-self g c =
    let is = c.self.invariant in
    let ran = c.run.ensures.ran in
    let at = runs_agree (record { coupled = is.coupled; number = is.number; is = is.is; table = λ step. is.tabled }) ran in
    record {
      stepwise = is.stepwise;
      coupled = at.coupled;
      number = at.number;
      is = at.is;
      tabled = at.table is.stepwise;
      room = is.room;
      opens = rw (opens_same g.I.CallLayer ran) is.opens;
    }

pub returns-clause-took : goal.returns-clause-took
returns-clause-took g c =
    let is = c.self.invariant in
    rw (← c.self.view_is) (turns_of g.I.CallLayer g.met.I.CallLayer.own_cpu is.stepwise
    (record { coupled = is.coupled; number = is.number; is = is.is; table = λ step. is.tabled }) c.run.ensures.ran)

pub returns-then-is_some-clause-some : goal.returns-then-is_some-clause-some
returns-then-is_some-clause-some g c =
    let I = g.I.CallLayer in
    let law = g.met.I.CallLayer in
    let m = c.self.inside.machine in
    let p = c.self.inside.cpu in
    let is = c.self.invariant in
    let cpu = layered (laws_of law) m p (record { coupled = is.coupled; number = is.number; is = is.is; table = λ step. is.tabled }) in
    let busy = law.busy p.part m is.coupled is.stepwise
    ∙ (ap (λ (d : CpuId). is_in_section (phase d (I.acts m))) is.number ∙ ap is_in_section (sym (phase_renamed name_of p.number (I.acts m)))) in
    subst (λ (w : Working). (setup : SystemConfig) → IsPlanned setup w.plan → MayStep setup w → 0 < 0) c.self.view_is
    (λ setup of may. stops_as_told I m p setup busy (halted_same (tabled_cpu cpu is.stepwise) setup
    (table_planned setup (homes_in (I.opening m)) (caps_in (I.opening m)) p.guests.items p.limit of)) c.reason.ensures (sym c.if-is_some.ensures) may)
