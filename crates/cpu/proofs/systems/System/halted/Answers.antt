use Rattle.std.{proofs.{Common.{arith, ◌≡◌, ℕ, map, Some, ap, sym, ◌∙◌, subst}, lemmas.Option.same_Some}, specs.Prelude.{Option, slice_get}}
use Rattle.{event_log.specs.declared.ids.CpuId.CpuId, cpu.specs.{Claims.{CpuView, SystemView}, Systems.{halted_in, own_reason_in}, Cpus.step_answer}}
use Rattle.cpu.{specs.{Table.Steps.cpu_step, Tower.Composed.named}, proofs.{ListFacts.ListReads.{read_at, shows_at}, StepTable.TableCalls.answers_step}}
use Rattle.cpu.proofs.OverLayer.{CpuOverLayer.{laws_of, layered, IsLayered, runs_within, tabled_cpu, outset}, SystemOverLayer.shown_by}
use Rattle.{cpu.proofs.systems.System.halted.{Given.Over, Goals.After-index-at}, layer_traits.specs.Threads.OnePlace.cpu_at}
use Rattle.cpu.proofs.systems.System.halted.Goals as goal

-- the CPU that is read is the one at its number
module _ (g : Over) (c : After-index-at g) where
  at : slice_get c.self.inside.cpus.items c.from.result ≡ Some c.index-at.result.now
  at = grind (arith, read_at)

  shown : slice_get (map (shown_by g.I.CallLayer) c.self.inside.cpus.items) c.from.result ≡ Some (shown_by g.I.CallLayer c.index-at.result.now)
  shown = shows_at (shown_by g.I.CallLayer) c.self.inside.cpus.items c.from.result c.index-at.result.now at

  shown_now : slice_get (map (shown_by g.I.CallLayer) c.self.inside.cpus.items) c.args.cpu.0 ≡ Some (shown_by g.I.CallLayer c.index-at.result.now)
  shown_now = rw (← c.from.ensures) shown

  abbrev cpu : IsLayered g.I.CallLayer c.self.inside.machine c.index-at.result.now
  cpu =
      let is = (c.self.invariant.each c.from.result c.index-at.result.now at).holds in
      layered (laws_of g.met.I.CallLayer) c.self.inside.machine c.index-at.result.now
      (record { coupled = is.0; number = is.1; is = is.2; table = is.3 })

pub reason-requires : goal.reason-requires
reason-requires g c = runs_within (cpu g (goal.at.reason-requires g c).After-index-at)

pub returns-clause-is : goal.returns-clause-is
returns-clause-is g c =
    subst (λ (s : SystemView). c.reason.result ≡ halted_in c.args.cpu s) c.self.view_is
    (c.reason.ensures ∙ sym (ap (λ (o : Option CpuView). own_reason_in o) (shown_now g (goal.at.returns-clause-is g c).After-index-at)))

pub returns-clause-table : goal.returns-clause-table
returns-clause-table g c =
    let I = g.I.CallLayer in
    let m = c.self.inside.machine in
    let p = shown_by I c.index-at.result.now in
    let items = map (shown_by I) c.self.inside.cpus.items in
    let read = (goal.at.returns-clause-table g c).After-index-at in
    let number_is = (c.self.invariant.each c.from.result c.index-at.result.now (at g read)).number_is ∙ ap (λ (j : ℕ). cpu_at j) c.from.ensures in
    rw (← c.self.view_is) (λ step setup goes q at_q.
    let same : p ≡ q = same_Some p q (sym (shown_now g read) ∙ at_q) in
    let answers = answers_step (tabled_cpu (cpu g read) step) _ _ (outset (cpu g read) step) setup (goes.each c.from.result p (shown g read)) in
    subst (λ (x : CpuView). (cpu_step setup c.args.cpu x.cpu_local (named (I.acts m))).answer ≡ step_answer (own_reason_in (slice_get items c.args.cpu.0))) same
    (subst (λ (d : CpuId). (cpu_step setup d p.cpu_local (named (I.acts m))).answer ≡ step_answer (own_reason_in (slice_get items c.args.cpu.0))) number_is
    (answers ∙ sym (ap (λ (o : Option CpuView). step_answer (own_reason_in o)) (shown_now g read)))))
