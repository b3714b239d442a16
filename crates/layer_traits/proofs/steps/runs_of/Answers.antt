use Rattle.{std.proofs.Common.refl, layer_traits.proofs.StepLemmas.begin_part}
use Rattle.layer_traits.proofs.steps.runs_of.Goals as goal

pub loop-local-preserved : goal.loop-local-preserved
loop-local-preserved c =
    begin_part c.args.cpu c.loop-local.local 32 c.args.steps.now c.loop-local.invariant c.loop-local-test.true (c.if-not-all_of.ensures refl)
