use Rattle.std.proofs.Common.{length, refl, ◌∙◌}
use Rattle.mctower.{specs.{Plans.IsOpened, Running.IsRunOf}, proofs.RunningLemmas.{bad_cpu, not_written, plan_opened, run_of, text_written}}
use Rattle.mctower.proofs.run.run_boot.{Given.Over, Goals.After-as_slice}
use Rattle.mctower.proofs.run.run_boot.Goals as goal

module _ (g : Over) (c : After-as_slice g) where
  -- the system was opened for the plan, and took the steps
  opened : IsOpened c.args.boot.now (length c.args.steps.now) c.in_ok-system.system
  opened =
      let made = c.in_ok-system.ensures in
      plan_opened c.args.boot.now (length c.args.steps.now) c.in_ok-system.system made.caps made.homes made.guests made.limits made.room made.taken

  ran : IsRunOf g.I.CallLayer.IsStepwise c.args.boot.now c.args.steps.now c.run.new.self
  ran =
      let made = c.in_ok-system.ensures in
      let run = c.in_ok-run.ensures in
      run_of g.I.CallLayer.IsStepwise c.args.boot.now c.args.steps.now c.in_ok-system.system c.run.new.self opened run.ran made.boots made.planned
      run.table run.sound run.observed run.plan run.linearization run.follow run.stay run.once

pub returns-in_err-run : goal.returns-in_err-run
returns-in_err-run g c =
    let made = c.in_ok-system.ensures in
    bad_cpu g.I.CallLayer.IsStepwise c.args.boot.now c.args.steps.now c.in_ok-system.system _ _
    (plan_opened c.args.boot.now _ c.in_ok-system.system made.caps made.homes made.guests made.limits made.room made.taken).system
    c.in_err-run.ensures.known.1 (c.requires.live, refl) c.from_residual-in_err-run.ensures.1

pub write_system-requires-clause-plan : goal.write_system-requires-clause-plan
write_system-requires-clause-plan g c = record {
  plan = c.args.boot.now;
  within = c.cpus.ensures.within;
  cpus = c.cpus.ensures.cpus;
  caps = c.as_slice.ensures.value ∙ c.caps-caps.ensures.caps;
  system = (ran g (goal.at.write_system-requires-clause-plan g c).After-as_slice).system;
}

pub returns-in_err-write_system : goal.returns-in_err-write_system
returns-in_err-write_system g c =
    let at = (goal.at.returns-in_err-write_system g c).After-as_slice in
    not_written g.I.CallLayer.IsStepwise c.args.boot.now c.args.steps.now c.as_slice.result.now c.in_ok-system.system c.run.new.self
    (c.as_slice.ensures.value ∙ c.caps-caps.ensures.caps) (opened g at).system (c.in_ok-run.ensures.known.0 refl) (ran g at) (Unit {0}) _
    c.in_err-write_system.field-0.0 _ c.in_err-write_system.ensures c.from_residual-in_err-write_system.ensures.1

pub returns : goal.returns
returns g c =
    let at = (goal.at.returns g c).After-as_slice in
    text_written g.I.CallLayer.IsStepwise c.args.boot.now c.args.steps.now c.as_slice.result.now c.in_ok-system.system c.run.new.self
    (c.as_slice.ensures.value ∙ c.caps-caps.ensures.caps) (opened g at).system (c.in_ok-run.ensures.known.0 refl) (ran g at) _ c.in_ok-write_system.ensures
