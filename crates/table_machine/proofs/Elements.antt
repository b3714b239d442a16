-- An element of a list: the definitions say it by `slice_get`, and the kit's table says it of its
-- views and slots by `get_elem?`.
use Rattle.std.proofs.Common.{◌≡◌, ℕ, zero, suc, List, [], ◌∷◌, ◌++◌, length, Some, slice_get, ap, sym}
use Rattle.atomic_table.proofs.Lists.{at_longer, at_last}
use mathlib.Core.Option.{some, some-injective, some-ne-none}
use lib.ListN.{get_elem?}

module _ {A : Type 0} where
  pub element_got : (l : List A) (i : ℕ) (a : A) → get_elem? l i ≡ some a → slice_get l i ≡ Some a
  element_got [] i a there = absurd (some-ne-none a (sym there))
  element_got (x ∷ xs) zero a there = ap Some (some-injective x a there)
  element_got (x ∷ xs) (suc i) a there = element_got xs i a there

  pub there_for : (l : List A) (i : ℕ) (a : A) → slice_get l i ≡ Some a → get_elem? l i ≡ some a
  there_for [] i a is = absurd (cc is)
  there_for (x ∷ xs) zero a is = let same : x ≡ a = cc is in ap some same
  there_for (x ∷ xs) (suc i) a is = there_for xs i a is

  -- the last element of a list, and one of its front
  pub last_got : (l : List A) (a : A) (n : ℕ) → length l ≡ n → slice_get (l ++ a ∷ []) n ≡ Some a
  last_got l a n long = element_got (l ++ a ∷ []) n a (at_last l a n long)

  pub longer_got : (l more : List A) (i : ℕ) (a : A) → slice_get l i ≡ Some a → slice_get (l ++ more) i ≡ Some a
  longer_got l more i a is = element_got (l ++ more) i a (at_longer l more i a (there_for l i a is))
