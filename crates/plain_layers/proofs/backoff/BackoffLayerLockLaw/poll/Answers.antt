use Rattle.std.proofs.Common.{[], refl}
use Rattle.plain_layers.proofs.backoff.BackoffLayerLockLaw.poll.Goals as goal

-- a poll that passes sees nothing
pub returns-then-is_busy-clause-history : goal.returns-then-is_busy-clause-history
returns-then-is_busy-clause-history g c = record { others = []; foreign = λ d acts. tt; is = refl; answers = tt }
