use Rattle.std.proofs.Common.{[], refl}
use Rattle.plain_layers.proofs.qlocks.PlainQLockThreadLayerQLockLaw.look.Goals as goal

-- nothing was seen
pub returns-clause-history : goal.returns-clause-history
returns-clause-history g c = record { others = []; foreign = λ d acts. tt; is = refl }
