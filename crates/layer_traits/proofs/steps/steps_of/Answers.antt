use Rattle.layer_traits.proofs.StepLemmas.{begin_rest}
use Rattle.layer_traits.proofs.steps.steps_of.Goals as goal

pub returns : goal.returns
returns c = begin_rest c.args.cpu c.runs_of-runs.result c.few_of.result c.args.steps.now c.runs_of-runs.ensures c.few_of.ensures
