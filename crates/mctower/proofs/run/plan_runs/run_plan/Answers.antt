use Rattle.{std.proofs.Common.refl, boot.specs.Plan.plan_of, mctower.{specs.{Output.between, Plans.from_boot}, proofs.Unguarded.{fault_told, unread_text}}}
use Rattle.mctower.proofs.run.plan_runs.run_plan.Goals as goal

pub returns-in_err-boot : goal.returns-in_err-boot
returns-in_err-boot g c =
    let out = between g.O.Write.contents c.args.out.now c.args.out.now in
    let error = c.in_err-boot.field-0.0 in
    fault_told (plan_of c.args.plan.now) c.args.steps.now (from_boot error) _ out
    (unread_text (plan_of c.args.plan.now) c.args.steps.now error out c.in_err-boot.ensures.plan (c.requires.live, refl)) c.from_residual.ensures.1
