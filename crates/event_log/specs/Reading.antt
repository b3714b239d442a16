-- Reading one part after another, where the first fault ends it.
use Rattle.std.specs.Prelude.{ℕ, ◌+◌, List, [], ◌∷◌, Option, Some, Result, Ok, Err, option_map}
use Rattle.std.specs.Prelude.{option_and_then}

infixl 10 ◌>>=◌
-- continues with the value, if there is one
abbrev pub ◌>>=◌ : {A B E : Type 0} → Result A E → (A → Result B E) → Result B E
Ok x >>= f = f x
Err e >>= f = Err e

-- what the parts read as, each by its index from `i` on, or the first fault
abbrev pub read_from : {A B E : Type 0} → (ℕ → A → Result B E) → ℕ → List A → Result (List B) E
read_from read i [] = Ok []
read_from read i (x ∷ xs) = read i x >>= λ y. read_from read (i + 1) xs >>= λ ys. Ok (y ∷ ys)

-- what the parts are seen as, if each of them can be seen as such
abbrev pub all_as : {A B : Type 0} → (A → Option B) → List A → Option (List B)
all_as kind [] = Some []
all_as kind (x ∷ xs) = option_and_then (λ y. option_map (λ ys. y ∷ ys) (all_as kind xs)) (kind x)
