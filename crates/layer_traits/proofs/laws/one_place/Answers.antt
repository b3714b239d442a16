use Rattle.layer_traits.proofs.OnePlaceLemmas.{one_place}
use Rattle.layer_traits.proofs.laws.one_place.Goals as goal

pub returns : goal.returns
returns c = one_place
