use Rattle.layer_traits.specs.Polling.PollRuns.{LookedOn}
use Rattle.fifo_buffer.proofs.monitor.MonitorCallLayerBufferLaw.looks.Goals as goal

-- there are none
pub returns-clause-looked_on : goal.returns-clause-looked_on
returns-clause-looked_on g c = LookedOn.none
