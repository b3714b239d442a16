use Rattle.{std.proofs.Common.{ap, map, subst, sym}, layer_traits.specs.{Blocks.QueueBlocks.StartsWell, Layers.Queues.event_of}}
use Rattle.shared_queue.proofs.shared.SharedQueuesLayerQueueLaw.spin.Goals as goal

pub returns-clause-spun : goal.returns-clause-spun
returns-clause-spun g c =
    let spun = c.spin.ensures.spun in
    record {
      opening = spun.opening;
      machine_id = spun.machine_id;
      history = ap (map event_of) spun.history;
      room = spun.room;
      acts = λ d acts. (spun.acts d acts.0, subst StartsWell (sym spun.opening) acts.1);
      coupled = λ p coupled. (spun.coupled p.lower coupled.0, subst StartsWell (sym spun.opening) coupled.1, coupled.2);
      holders = spun.holders;
    }
