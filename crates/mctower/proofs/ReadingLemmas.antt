-- What is read off a system, one CPU or thread after another.
use Rattle.std.{proofs.Common.{◌≡◌, ℕ, ◌+◌, ◌<◌, List, [], ◌∷◌, ◌++◌, ◌∙◌, inl, inr, sym, length, get_or, set, take, Some, arith}, specs.Prelude.slice_get}
use Rattle.std.proofs.lemmas.{Bool.cases_lt, List.{get_or-set_other, get_or-set_same, get_or-take, length-take}}
use Rattle.std.proofs.lemmas.Option.{get_or_from_slice_get, slice_get_within}
use Rattle.cpu.{specs.Claims.listed, proofs.WholeSystems.PlanGuests.listed_more}

-- one place more is listed
pub listed_next : {X : Type 0} (f : ℕ → X) (xs : List X) (x : X) (n : ℕ) → xs ≡ listed f 0 n → x ≡ f n → xs ++ x ∷ [] ≡ listed f 0 (n + 1)
listed_next f xs x n before is = grind (arith, listed_more f n 0)

-- one place more is read
pub read_more : {X : Type 0} (P : ℕ → X → Type 0) (xs : List X) (i : ℕ) (x : X) → i < length xs
    → ((k : ℕ) (d : X) → k < i → P k (get_or xs k d)) → P i x → (k : ℕ) (d : X) → k < i + 1 → P k (get_or (set xs i x) k d)
read_more P xs i x within before here k d lt = elim (cases_lt k i) [
  | inl low ↦ rw (get_or-set_other xs i k x d (λ same. omega arith)) (before k d low)
  | inr high ↦ let same : k ≡ i = omega arith in rw (same, get_or-set_same xs i x d within) here
]

-- what is among the first so many
pub read_front : {X : Type 0} (xs : List X) (n k : ℕ) (x : X) → slice_get (take n xs) k ≡ Some x → (k < n) × (get_or xs k x ≡ x)
read_front xs n k x at =
    let low : k < n = omega (arith, slice_get_within (take n xs) k x at, length-take n xs) in
    (low, sym (get_or-take n xs k x low) ∙ get_or_from_slice_get (take n xs) k x x at)
