use Rattle.std.proofs.Common.{◌≡◌, sym, ◌∙◌, subst}
use Rattle.{layer_traits.specs.{Blocks.{Capacities.caps_in, QueueBlocks.homes_in}, Views.OwnParts.threads_in}, cpu.specs.Table.Steps.halted_at}
use Rattle.cpu.proofs.{CpuSteps.{CpuStates.valid_cpu, PassSteps.current_within}, OverLayer.CpuOverLayer.{laws_of, layered, runs_home, tabled_cpu}}
use Rattle.{cpu.proofs.StepTable.TableRows.halted_same, cpu_workers.{specs.Working.{IsPlanned, Working}, proofs.Planning.{own_reason, table_planned}}}
use Rattle.cpu_workers.proofs.workers.worker.Worker.halted.Goals as goal

pub halted-requires : goal.halted-requires
halted-requires g c =
    let m = c.self.inside.machine in
    let is = c.self.invariant in
    let cpu =
    layered (laws_of g.met.I.CallLayer) m c.self.inside.cpu (record { coupled = is.coupled; number = is.number; is = is.is; table = λ step. is.tabled }) in
    current_within (valid_cpu is.is) (runs_home cpu)

pub returns-clause-is : goal.returns-clause-is
returns-clause-is g c = λ setup of.
    let I = g.I.CallLayer in
    let m = c.self.inside.machine in
    let p = c.self.inside.cpu in
    let is = c.self.invariant in
    let cpu = layered (laws_of g.met.I.CallLayer) m p (record { coupled = is.coupled; number = is.number; is = is.is; table = λ step. is.tabled }) in
    let same = halted_same (tabled_cpu cpu is.stepwise) setup
    (table_planned setup (homes_in (I.opening m)) (caps_in (I.opening m)) p.guests.items p.limit
    (subst (λ (w : Working). IsPlanned setup w.plan) (sym c.self.view_is) of)) in
    subst (λ (w : Working). halted_at setup w.cpu w.cpu_local ≡ c.halted.result) c.self.view_is (same ∙ sym c.halted.ensures)

pub returns-clause-local : goal.returns-clause-local
returns-clause-local g c = λ used.
    let p = c.self.inside.cpu in
    own_reason (threads_in (g.I.CallLayer.local p.part)) p.guests.items p.trace.items p.limit (sym c.halted.ensures ∙ used)
