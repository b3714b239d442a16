-- Reads of lists, also of those that were written.
use Rattle.std.proofs.Common.{◌≡◌, ◌≢◌, ℕ, zero, suc, ◌+◌, ◌<◌, List, [], ◌∷◌, length, drop, get_or, replicate, Some, slice_set, length-set, refl, ap, sym, ◌∙◌}
use Rattle.std.{proofs.{Common.arith, lemmas.{Option.slice_get_read, List.{drop_more, get_or-set_same}}}, specs.Prelude.slice_get}

-- what was written is read
pub set_there : {X : Type 0} (xs : List X) (i : ℕ) (x : X) → i < length xs → slice_get (slice_set xs i x) i ≡ Some x
set_there xs i x within = slice_get_read (slice_set xs i x) (length xs) i x (sym (length-set xs i x)) within (sym (get_or-set_same xs i x x within))

-- a write elsewhere changes nothing
pub set_else : {X : Type 0} (xs : List X) (i j : ℕ) (x : X) → j ≢ i → slice_get (slice_set xs i x) j ≡ slice_get xs j
set_else [] i j x other = refl
set_else (z ∷ zs) zero zero x other = absurd (other refl)
set_else (z ∷ zs) zero (suc j) x other = refl
set_else (z ∷ zs) (suc i) zero x other = refl
set_else (z ∷ zs) (suc i) (suc j) x other = set_else zs i j x (λ same. other (ap suc same))

-- an index within the list has its element
pub there_is : {X : Type 0} (xs : List X) (i : ℕ) → i < length xs → (x : X) × (slice_get xs i ≡ Some x)
there_is [] i within = absurd (omega arith)
there_is (z ∷ zs) zero within = (z, refl)
there_is (z ∷ zs) (suc i) within = there_is zs i (omega arith)

-- an element of a list of equal ones, and what is read past its end
pub alike_at : {X : Type 0} (n i : ℕ) (x : X) → get_or (replicate n x) i x ≡ x
alike_at zero i x = refl
alike_at (suc n) zero x = refl
alike_at (suc n) (suc i) x = alike_at n i x

-- the list from an index on
pub from_index : {X : Type 0} (xs : List X) (i : ℕ) (x : X) → i < length xs → x ≡ get_or xs i x → drop i xs ≡ x ∷ drop (i + 1) xs
from_index xs i x within is = drop_more xs i x within ∙ ap (λ y. y ∷ drop (i + 1) xs) (sym is)
