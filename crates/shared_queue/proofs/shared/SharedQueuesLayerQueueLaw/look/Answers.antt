use Rattle.{std.proofs.Common.{subst, sym}, layer_traits.{proofs.NestedLemmas.event_grows, specs.Blocks.{QueueRules.IsProperCall}}}
use Rattle.shared_queue.proofs.FrameLemmas.{frame_raised}
use Rattle.shared_queue.proofs.shared.SharedQueuesLayerQueueLaw.look.Goals as goal

-- environment sections are environment calls
pub returns-clause-history : goal.returns-clause-history
returns-clause-history g c = event_grows _ _ (λ d both. both.0) _ _ c.look.ensures.history

-- and the queues have no state
pub returns-clause-framed : goal.returns-clause-framed
returns-clause-framed g c =
    frame_raised _ g.L.Layer.under_way c.requires.coupled.1 c.look.ensures.framed (subst IsProperCall (sym c.look.ensures.call) c.requires.coupled.2)
