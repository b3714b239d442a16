use Rattle.std.proofs.Common.{refl}
use Rattle.layer_traits.proofs.grant_words.GrantWords.spin.Goals as goal

pub returns-clause-adds : goal.returns-clause-adds
returns-clause-adds g c = (0, refl)
