-- The loops that read parts one after another: what is read so far, and what is left.
use Rattle.std.proofs.Common.{arith, ◌≡◌, ℕ, ◌+◌, ◌<◌, ◌≤◌, List, [], ◌∷◌, ◌++◌, length, get_or, drop, map, Option, Result, Ok, Err, option_map}
use Rattle.std.proofs.Common.{sym, ◌∙◌, ap, add-one, drop-cons, drop_of_length-le, append-nil}
use Rattle.event_log.specs.Reading.{◌>>=◌, read_from, all_as}

-- what is read so far precedes the rest
abbrev pub after : {B E : Type 0} → List B → Result (List B) E → Result (List B) E
after front read = read >>= λ rest. Ok (front ++ rest)

-- what the parts from `i` on read as; a part is seen by `view`
abbrev pub left_from : {X A B E : Type 0} → (X → A) → (ℕ → A → Result B E) → List X → ℕ → Result (List B) E
left_from view read xs i = read_from read i (map view (drop i xs))

module _ {X A B E : Type 0} (view : X → A) (read : ℕ → A → Result B E) where
  left_at : (xs : List X) (i : ℕ) (d : X) → i < length xs → left_from view read xs i
      ≡ (read i (view (get_or xs i d)) >>= λ y. left_from view read xs (i + 1) >>= λ ys. Ok (y ∷ ys))
  left_at xs i d h = ap (λ rest. read_from read i (map view rest)) (drop-cons xs i d h ∙ ap (λ k. get_or xs i d ∷ drop k xs) (sym (add-one i)))

  -- a part with a fault
  pub read_fault : (xs : List X) (i : ℕ) (d : X) (front : List B) (e : E) → i < length xs → read i (view (get_or xs i d)) ≡ Err e
      → after front (left_from view read xs i) ≡ Err e
  read_fault xs i d front e h bad = ap (after front) (left_at xs i d h ∙ ap (λ r. r >>= λ z. left_from view read xs (i + 1) >>= λ ys. Ok (z ∷ ys)) bad)

  -- past the last part
  pub read_all : (xs : List X) (i : ℕ) (front : List B) → length xs ≤ i → after front (left_from view read xs i) ≡ Ok front
  read_all xs i front h = ap (λ rest. after front (read_from read i (map view rest))) (drop_of_length-le xs h) ∙ ap Ok (append-nil front)

-- the same if a part is seen as something, or is of another kind
abbrev pub with_front : {B : Type 0} → List B → Option (List B) → Option (List B)
with_front front history = option_map (λ rest. front ++ rest) history

abbrev pub left_as : {X A B : Type 0} → (X → A) → (A → Option B) → List X → ℕ → Option (List B)
left_as view kind xs i = all_as kind (map view (drop i xs))

module _ {X A B : Type 0} (view : X → A) (kind : A → Option B) where
  pub seen_none : (xs : List X) → with_front [] (left_as view kind xs 0) ≡ all_as kind (map view xs)
  seen_none xs = grind arith
