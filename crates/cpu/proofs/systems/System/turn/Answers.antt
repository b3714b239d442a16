use Rattle.std.proofs.Common.{rules, ◌≡◌, ℕ, ◌+◌, ◌≤◌, List, replicate, take, Option, Some, None, is_some, ap, sym, ◌∙◌, subst, arith}
use Rattle.std.{proofs.lemmas.Option.slice_get_within, specs.Prelude.{slice_get, slice_index_or}}
use Rattle.{event_log.specs.declared.ids.CpuId.CpuId, layer_traits.specs.declared.steps.Reason.Reason, cpu.specs.{Claims.CpuView, CpuSteps.AgreesAt}}
use Rattle.cpu.{specs.Systems.{own_reason_in, reason_of, reason_or}, proofs.CpuSteps.CpuRuns.{runs_agree, runs_room}}
use Rattle.cpu.proofs.{StepTable.Schedules.{Leads, leads_resting, turn_begun}, ListFacts.ListReads.{read_at, shows_at}, WholeSystems.Moments.MachineLaws}
use Rattle.cpu.proofs.OverLayer.{RunsOverLayer.{WentSo, spun_so, went_so}, SystemOverLayer.shown_by}
use Rattle.cpu.proofs.systems.System.turn.{Given.Over, Goals.{After-index_mut-at, After-spin-looks, Then-is_some}}
use Rattle.cpu.proofs.systems.System.turn.Goals as goal

-- the CPU at the front of the steps
abbrev first : List CpuId → CpuId
first steps = slice_index_or steps 0 (record { 0 = 0 })

-- the CPU that steps is the one at its number
at : (g : Over) (c : After-index_mut-at g) → slice_get c.self.inside.cpus.items c.from.result ≡ Some c.index_mut-at.result.now
at g c = grind (arith, read_at)

agrees : (g : Over) (c : After-index_mut-at g) → AgreesAt g.I.CallLayer c.self.inside.machine c.index_mut-at.result.now
agrees g c =
    let is = (c.self.invariant.each c.from.result c.index_mut-at.result.now (at g c)).holds in
    record { coupled = is.0; number = is.1; is = is.2; table = is.3 }

-- no step is taken
rests : (g : Over) (c : Then-is_some g)
    → Leads g.I.CallLayer.IsStepwise c.args.self.now (take (c.steps_behind-local.result + 1) c.args.steps.now) c.args.self.now
rests g c =
    let some = sym (ap (λ (r : Option Reason). is_some r) c.reason.ensures.is) ∙ sym c.if-is_some.ensures in
    subst (λ (l : List CpuId). Leads g.I.CallLayer.IsStepwise c.args.self.now l c.args.self.now)
    (turn_begun c.args.steps.now (record { 0 = 0 }) c.steps_behind-local.result (c.steps_behind-local.result + 1) c.requires.some c.steps_behind-local.ensures
    (omega arith)) (leads_resting g.I.CallLayer.IsStepwise (first c.args.steps.now) c.args.self.now (c.steps_behind-local.result + 1)
    (c.requires.known 0 (record { 0 = 0 }) c.requires.some) some c.reason.ensures.table)

pub returns-then-is_some-clause-ran : goal.returns-then-is_some-clause-ran
returns-then-is_some-clause-ran g c = (rests g (goal.at.returns-then-is_some-clause-ran g c).Then-is_some).ran

pub returns-then-is_some-clause-table : goal.returns-then-is_some-clause-table
returns-then-is_some-clause-table g c = (rests g (goal.at.returns-then-is_some-clause-table g c).Then-is_some).table

pub run-taken-requires : goal.run-taken-requires
run-taken-requires g c =
    let x = c.index_mut-at.result.now in
    let found = (goal.at.run-taken-requires g c).After-index_mut-at in
    let live : reason_of (first c.args.steps.now) c.args.self.now ≡ None = search rules in
    let shown = subst (λ (j : ℕ). slice_get c.args.self.now.cpus j ≡ Some (shown_by g.I.CallLayer x)) c.from.ensures
    (rw (← c.self.view_is) (shows_at (shown_by g.I.CallLayer) c.self.inside.cpus.items c.from.result x (at g found))) in
    let enough = c.self.invariant.enough in
    let left = c.reason.ensures.room in
    record {
      agrees = agrees g found;
      some = grind (arith, left, live);
      room = grind (arith, enough);
      live = grind (arith, sym (ap (λ (o : Option CpuView). reason_or (own_reason_in o) c.args.self.now) shown) ∙ live);
    }

pub spin-looks-requires-clause-coupled : goal.spin-looks-requires-clause-coupled
spin-looks-requires-clause-coupled g c =
    (runs_agree (agrees g (goal.at.spin-looks-requires-clause-coupled g c).After-index_mut-at) c.run-taken.ensures.ran).coupled

pub spin-looks-requires-clause-room : goal.spin-looks-requires-clause-room
spin-looks-requires-clause-room g c =
    let enough = c.self.invariant.enough in
    let left = runs_room c.run-taken.ensures.ran in
    grind (arith, enough, left)

-- the steps that it took, and the polls of a lock after them
module _ (g : Over) (c : After-spin-looks g) where
  there : slice_get c.self.inside.cpus.items c.from.result ≡ Some c.index_mut-at.result.now
  there = at g (goal.at-After-spin-looks g c).After-index_mut-at

  space : c.self.inside.taken + (c.run-taken.result + c.spin-looks.result) ≤ c.self.inside.room
  space = omega arith

  laws : MachineLaws g.I.CallLayer
  laws = assumption (g.met.I.CallLayer, g.met.I.Owned)

  went : WentSo g.I.CallLayer laws g.I.Owned.owner c.self.inside.threads c.self.inside.room c.from.result (first c.args.steps.now) c.from.ensures
      c.self.inside.machine c.self.inside.cpus.items c.self.inside.taken (c.run-taken.result + c.spin-looks.result) c.spin-looks.new.m c.run-taken.new.self
  went =
      let e = c.spin-looks.ensures in
      spun_so g.I.CallLayer laws g.I.Owned.owner c.self.inside.threads c.self.inside.room c.from.result (first c.args.steps.now) c.from.ensures
      (slice_get_within c.self.inside.cpus.items c.from.result c.index_mut-at.result.now there)
      (went_so g.I.CallLayer laws g.I.Owned.owner c.self.inside.threads c.self.inside.room c.from.result (first c.args.steps.now) c.from.ensures
      c.self.inside.cpus.items c.self.inside.taken c.self.invariant there c.run-taken.ensures.ran (let s = space in omega (arith, s)))
      e.spun e.tries e.still e.live space

  front : replicate (c.run-taken.result + c.spin-looks.result) (first c.args.steps.now) ≡ take (c.run-taken.result + c.spin-looks.result) c.args.steps.now
  front = grind (arith, turn_begun)

pub invariant_of-self : goal.invariant_of-self
invariant_of-self g c = (went g (goal.at.invariant_of-self g c).After-spin-looks).keeps

pub returns-clause-plan : goal.returns-clause-plan
returns-clause-plan g c = rw (← c.self.view_is) (went g (goal.at.returns-clause-plan g c).After-spin-looks).leads.plan

pub returns-clause-ran : goal.returns-clause-ran
returns-clause-ran g c =
    let after = (goal.at.returns-clause-ran g c).After-spin-looks in
    rw (← c.self.view_is, ← front g after) (went g after).leads.ran

pub returns-clause-table : goal.returns-clause-table
returns-clause-table g c = λ step.
    let after = (goal.at.returns-clause-table g c).After-spin-looks in
    rw (← c.self.view_is, ← front g after) ((went g after).leads.table step)
