use Rattle.layer_traits.proofs.EffectRunLemmas.{effects_are_run}
use Rattle.layer_traits.proofs.laws.effects_are_run.Goals as goal

pub returns : goal.returns
returns c = effects_are_run
