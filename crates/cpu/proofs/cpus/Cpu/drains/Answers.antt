use Rattle.std.proofs.Common.{◌+◌, refl, ap, ◌∙◌, rules, arith}
use Rattle.layer_traits.{specs.{Layers.{BufferLaw.Buffering, IpcLaw.ipc_plan}, Views.OwnParts.threads_in}, proofs.PollRunLemmas.looks_keep}
use Rattle.cpu.{specs.{Cpus.chosen, CpuSteps.RunsAt}, proofs.CpuSteps.{CallRuns.looks_run, CpuRuns.{goes_later, goes_once, runs_room, some_taken}}}
use Rattle.cpu.proofs.{OverLayer.CpuOverLayer.{laws_of, layered, runs_within}, cpus.Cpu.drains.{Given.Over, Goals.{After-looks, After-pass}}}
use Rattle.cpu.proofs.cpus.Cpu.drains.Goals as goal

pub loop-taken-init : goal.loop-taken-init
loop-taken-init g c = record { few = c.requires.goes.some; live = c.requires.goes.live; chosen = c.requires.chosen; ran = RunsAt.no_steps }

pub pass-requires-clause-goes : goal.pass-requires-clause-goes
pass-requires-clause-goes g c =
    let so = c.loop-taken.invariant in
    goes_once (goes_later c.requires.goes so.ran so.few so.live)

-- the steps with the drain's poll among them
ran_polling : (g : Over) (c : After-pass g) → RunsAt g.I.CallLayer c.args.m.now c.args.self.now (c.loop-taken.taken + 1) c.pass.new.m c.pass.new.self
ran_polling g c = RunsAt.then_step c.loop-taken.invariant.ran c.pass.ensures

pub goes_on_draining-requires : goal.goes_on_draining-requires
goes_on_draining-requires g c = runs_within (layered (laws_of g.met.I.CallLayer) c.pass.new.m c.pass.new.self c.pass.ensures.agrees)

pub returns-then-taken-most : goal.returns-then-taken-most
returns-then-taken-most g c =
    let few = c.loop-taken.invariant.few in
    record { some = omega arith; few = omega (arith, few); ran = ran_polling g (goal.at.returns-then-taken-most g c).After-pass }

pub looks-requires : goal.looks-requires
looks-requires g c =
    let few = c.loop-taken.invariant.few in
    let wide = c.requires.goes.room in
    let left = runs_room (ran_polling g (goal.at.looks-requires g c).After-pass) in
    record { coupled = c.pass.ensures.agrees.coupled; some = grind (arith, few, c.if-taken-most.false); room = omega (arith, wide, left) }

-- and the polls of a lock after it
ran_looking : (g : Over) (c : After-looks g)
    → RunsAt g.I.CallLayer c.args.m.now c.args.self.now c.looks.new.taken c.looks.new.m (record c.pass.new.self { part = c.looks.new.self })
ran_looking g c =
    let laws = laws_of g.met.I.CallLayer in
    looks_run laws (layered laws c.args.m.now c.args.self.now c.requires.goes.agrees) (ran_polling g (goal.at-After-looks g c).After-pass)
    c.looks.ensures.looked_on

pub returns-then-looks : goal.returns-then-looks
returns-then-looks g c = record {
  some = some_taken _ _ _ c.requires.goes.some (c.looks.ensures.ends c.if-looks.true);
  few = c.looks.ensures.few;
  ran = ran_looking g (goal.at.returns-then-looks g c).After-looks;
}

pub loop-taken-preserved : goal.loop-taken-preserved
loop-taken-preserved g c =
    let same = looks_keep g.I.CallLayer ipc_plan c.looks.ensures.looked_on in
    record {
      few = (c.looks.ensures.goes_on c.if-looks.false).0;
      live = rw (same.0, same.1) (c.if-not-goes_on_draining.ensures.live refl);
      chosen = ap (λ (local : Buffering). chosen (threads_in local) c.pass.new.self.guests.items) same.0
          ∙ c.if-not-goes_on_draining.ensures.chosen refl;
      ran = ran_looking g (goal.at.loop-taken-preserved g c).After-looks;
    }
