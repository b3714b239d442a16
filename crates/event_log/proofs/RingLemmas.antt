-- Lemmas on the part of a table that holds a queue.
use Rattle.std.proofs.Common.{◌≡◌, ℕ, ◌+◌, ◌-◌, ◌%◌, ◌<◌, ◌≤◌, ◌⊎◌, List, [], ◌∷◌, ◌++◌, length, get_or, set, ◌∙◌, inl, inr, mod-eq_of_lt, arith, length-append}
use Rattle.std.proofs.{Common.{length-drop, length-set, length-take-le, get_or-drop, get_or-take}, lemmas.List.{same_lists, drop_more, get_or_append_left}}
use Rattle.{std.proofs.lemmas.{List.get_or-append_right, Bool.cases_lt, Grind.common_steps}, event_log.specs.Rings.window}
use native.Mathlib.Nat.{mod-eq-sub-mod}

-- an index below 2 N wraps once at most
mod_wraps_once : (N j : ℕ) → j < N + N → ((j < N) × (j % N ≡ j)) ⊎ ((N ≤ j) × (j % N ≡ j - N))
mod_wraps_once N j below = elim (cases_lt j N) [
  | inl low ↦ inl (low, mod-eq_of_lt low)
  | inr high ↦ inr (high, mod-eq-sub-mod high ∙ mod-eq_of_lt (omega arith))
]

module _ {A : Type 0} (N k n : ℕ) (xs : List A) (start_in_range : k < N) (len_fits : n ≤ N) (length_xs : length xs ≡ N) where
  -- the window has n items
  pub length-window : length (window k n xs) ≡ n
  length-window = length-take-le n _ (simp (length-append, length-drop) (omega (arith, length-take-le k xs (omega arith))))

  -- item i of the window is slot (k + i) % N, which is before the end of the table or past it
  pub get_or-window : (i : ℕ) (d : A) → i < n → get_or (window k n xs) i d ≡ get_or xs ((k + i) % N) d
  get_or-window i d in_range = grind (arith, length-drop, get_or-take, mod_wraps_once, get_or_append_left, get_or-drop, get_or-append_right)

-- A second block, since these use the lemmas above at other windows.
module _ {A : Type 0} (N k n : ℕ) (xs : List A) (start_in_range : k < N) (len_fits : n ≤ N) (length_xs : length xs ≡ N) where
  -- a write after the last item adds it at the end; the two lists are compared item by item
  pub window_after_push : (x : A) → n < N → window k (n + 1) (set xs ((k + n) % N) x) ≡ window k n xs ++ x ∷ []
  window_after_push x has_room =
      let ys = set xs ((k + n) % N) x in
      let length_ys = length-set xs ((k + n) % N) x ∙ length_xs in
      let length_old = length-window N k n xs start_in_range len_fits length_xs in
      let length_new = length-window N k (n + 1) ys start_in_range (omega arith) length_ys in
      let written_slot = mod_wraps_once N (k + n) (omega arith) in
      same_lists _ _ (grind (arith, common_steps)) (λ i d in_range. grind (
        arith,
        common_steps,
        mod_wraps_once N (k + i) (omega arith),
        get_or-window N k n xs start_in_range len_fits length_xs i d,
        get_or-window N k (n + 1) ys start_in_range (omega arith) length_ys i d,
      ))

  -- the window is slot k, then the window from the next slot; the tails are compared item by item
  pub window_before_pop : (d : A) → 0 < n → window k n xs ≡ get_or xs k d ∷ window ((k + 1) % N) (n - 1) xs
  window_before_pop d nonempty = grind (arith, mod_wraps_once, length-window, get_or-window, drop_more, same_lists, length-drop, get_or-drop)
