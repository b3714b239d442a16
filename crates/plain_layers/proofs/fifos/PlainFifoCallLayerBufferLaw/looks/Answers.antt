use Rattle.layer_traits.specs.Polling.PollRuns.{LookedOn}
use Rattle.plain_layers.proofs.fifos.PlainFifoCallLayerBufferLaw.looks.Goals as goal

-- there are none
pub returns-clause-looked_on : goal.returns-clause-looked_on
returns-clause-looked_on g c = LookedOn.none
