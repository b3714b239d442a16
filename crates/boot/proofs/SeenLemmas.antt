-- Arrays whose items are all of one kind: what is seen after some items.
use Rattle.std.proofs.Common.{◌≡◌, ℕ, List, [], ◌∷◌, map, Option, refl, sym, ◌∙◌, ap}
use Rattle.{toml.specs.{Data.Data, View.{view, items_of}, declared.value.Value.Value}, event_log.{specs.Reading.all_as, proofs.ReadingLemmas.with_front}}
use Rattle.{event_log.proofs.ReadingLemmas.{left_as, seen_none}, boot.specs.Plan.data_in}

-- the items of an array are its list
pub data_in-items_of : (ds : List Data) → data_in (items_of ds) ≡ ds
data_in-items_of [] = refl
data_in-items_of (d ∷ ds) = ap (λ rest. d ∷ rest) (data_in-items_of ds)

-- the first `i` values are seen as `front`
pub record SeenSoFar {B : Type 0} (kind : Data → Option B) (values : List Value) (i : ℕ) (front : List B) : Type 0 where
  pub seen : with_front front (left_as view kind values i) ≡ all_as kind (data_in (items_of (map view values)))

module _ {B : Type 0} (kind : Data → Option B) (values : List Value) where
  pub so_far_none : SeenSoFar kind values 0 []
  so_far_none = record { seen = seen_none view kind values ∙ ap (all_as kind) (sym (data_in-items_of (map view values))) }
