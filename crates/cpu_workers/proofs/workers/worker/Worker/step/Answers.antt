use Rattle.std.proofs.Common.{sym, ◌∙◌, subst, arith}
use Rattle.{layer_traits.specs.Blocks.{Capacities.caps_in, QueueBlocks.homes_in}, event_log.specs.declared.ids.CpuId.CpuId, cpu.specs.Table.Steps.cpu_step}
use Rattle.{cpu.specs.{Tables.cpu_local, Tower.Composed.named}, cpu_workers.proofs.Planning.{table_planned, step_behind}}
use Rattle.cpu_workers.proofs.workers.worker.Worker.step.Goals as goal

pub step-requires-clause-room : goal.step-requires-clause-room
step-requires-clause-room g c = omega (arith, c.self.invariant.room.0, c.self.invariant.room.1 c.self.inside.machine)

pub step-requires-clause-agrees : goal.step-requires-clause-agrees
step-requires-clause-agrees g c =
    let is = c.self.invariant in record { coupled = is.coupled; number = is.number; is = is.is; table = λ step. is.tabled }

pub invariant_of-self : goal.invariant_of-self
invariant_of-self g c =
    let is = c.self.invariant in
    let e = c.step.ensures in
    record {
      stepwise = is.stepwise;
      coupled = e.coupled;
      number = e.leaves.cpu ∙ sym e.leaves.number;
      is = e.is;
      tabled = e.table is.stepwise;
      room = is.room;
      opens = rw e.leaves.opening is.opens;
    }

pub returns-clause-turned : goal.returns-clause-turned
returns-clause-turned g c =
    let I = g.I.CallLayer in
    let m = c.self.inside.machine in
    let p = c.self.inside.cpu in
    let q = c.step.new.self in
    let is = c.self.invariant in
    let acts = subst (λ (d : CpuId). I.ActsFor m d) is.number (g.met.I.CallLayer.own_cpu p.part m is.coupled) in
    rw (← c.self.view_is) (λ setup of. step_behind (λ d. I.ActsFor m d) p.number (cpu_step setup p.number)
    (cpu_local (I.local p.part) p.guests.items p.trace.items)
    (cpu_local (I.local q.part) q.guests.items q.trace.items) (named (I.acts m)) (named (I.acts c.step.new.m)) c.step.result acts
    (c.step.ensures.steps is.stepwise setup (table_planned setup (homes_in (I.opening m)) (caps_in (I.opening m)) p.guests.items p.limit of)))
