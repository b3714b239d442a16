use Rattle.layer_traits.specs.Polling.PollRuns.{once}
use Rattle.layer_traits.proofs.call_layers.CallLayer.poll_on.Goals as goal

pub returns-clause-polled_on : goal.returns-clause-polled_on
returns-clause-polled_on g c = once c.poll_kind.ensures
