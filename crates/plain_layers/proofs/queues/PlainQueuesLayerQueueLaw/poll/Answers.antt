use Rattle.std.proofs.Common.{[]}
use Rattle.plain_layers.proofs.queues.PlainQueuesLayerQueueLaw.poll.Goals as goal

-- a call that stays allowed is allowed now
pub done-requires-clause-call : goal.done-requires-clause-call
done-requires-clause-call g c = c.requires.call [] tt c.requires.coupled.1.lawful

-- nothing was added before it
pub returns-clause-history : goal.returns-clause-history
returns-clause-history g c = record { others = []; foreign = λ d acts. tt; is = c.done.ensures.history; answers = c.done.ensures.answer }
