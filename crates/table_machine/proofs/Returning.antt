-- The loops that take in the keys and give back the blocks.
use Rattle.std.proofs.Common.{◌≡◌, ◌≢◌, ℕ, suc, ◌+◌, ◌<◌, ◌≤◌, Bool, true, false, List, [], ◌∷◌, ◌++◌, length, get_or, set, All, Some, None, IsSome}
use Rattle.std.proofs.{Common.{ap, sym, ◌∙◌, append_assoc, append-nil, get_or-set_other, arith}, lemmas.Grind.get_or-set_at}
use Rattle.{atomic_table.proofs.Lists.{at_index, at_longer, at_last}, event_log.specs.declared.ids.LockId.LockId, table_machine.specs.declared.views.Home.Home}
use mathlib.Core.Option.{some, some-injective, some-ne-none}
use mathlib.Core.Logic.{dite}
use native.Mathlib.Decide.{ℕ_discrete}
use lib.ListN.{get_elem?}

module _ {A : Type 0} where
  pub yield_more : (ys xs rest all : List A) (x : A) → ys ++ xs ≡ all → xs ≡ x ∷ rest → (ys ++ x ∷ []) ++ rest ≡ all
  yield_more ys xs rest all x whole is = append_assoc ys (x ∷ []) rest ∙ (ap (λ l. ys ++ l) (sym is) ∙ whole)

  pub no_more : (ys xs all : List A) (n : ℕ) → ys ++ xs ≡ all → n ≡ length xs → n ≡ 0 → ys ≡ all
  no_more ys [] all n whole count done = sym (append-nil ys) ∙ whole
  no_more ys (x ∷ xs) all n whole count done = absurd (omega arith)

  pub all_tail : (P : A → Type 0) (xs rest : List A) (x : A) → xs ≡ x ∷ rest → All P xs → All P rest
  all_tail P xs rest x is all k d below =
      let whole : All P (x ∷ rest) = rw is at all in whole (suc k) d (omega arith)

pub stays_filled : (f f' : List Bool) (i n n' : ℕ) → f' ≡ set f i false → n' ≡ n → ((k : ℕ) → i ≤ k → k < n → get_or f k false ≡ true) → (k : ℕ) → i + 1 ≤ k
    → k < n' → get_or f' k false ≡ true
stays_filled f f' i n n' is same full k above below = grind (arith, get_or-set_other)

pub stays_empty : (f f' : List Bool) (i : ℕ) → f' ≡ set f i false → i < length f → ((k : ℕ) → k < i → get_or f k false ≡ false) → (k : ℕ) → k < i + 1
    → get_or f' k false ≡ false
stays_empty f f' i is within empty k below = grind (arith, get_or-set_at, get_or-set_other)

module _ {E B : Type 0} where
  pub a_block : (homes now : List (Home E B)) (i : ℕ) (h y : Home E B) → get_elem? now i ≡ some h → now ≡ homes → get_elem? homes i ≡ some y → IsSome y.block
      → h.block ≡ None → ⊥
  a_block homes now i h y at same there has nothing = grind arith

  -- one block more
  pub given_more : (locks : List LockId) (homes now : List (Home E B)) (xs ys : List (LockId × B)) (n : ℕ) (at_n : LockId) (h : Home E B) (block : B)
      → length xs ≡ n → ys ≡ xs ++ (at_n, block) ∷ [] → n < length locks → at_n ≡ get_or locks n at_n → get_elem? now n ≡ some h → now ≡ homes
      → h.block ≡ Some block
      → ((i : ℕ) (lock : LockId) (y : Home E B) (b : B) → i < n → get_elem? locks i ≡ some lock → get_elem? homes i ≡ some y → y.block ≡ Some b
      → get_elem? xs i ≡ some (lock, b))
      → (i : ℕ) (lock : LockId) (y : Home E B) (b : B) → i < n + 1 → get_elem? locks i ≡ some lock → get_elem? homes i ≡ some y → y.block ≡ Some b
      → get_elem? ys i ≡ some (lock, b)
  given_more locks homes now xs ys n at_n h block count is within read at same has done i lock y b below at_lock at_home holds =
      rw is (dite (ℕ_discrete i n)
      (λ (e : i ≡ n).
      let lock_is : at_n ≡ lock = some-injective at_n lock (sym (at_index locks n at_n within read) ∙ (rw e at at_lock)) in
      let home_is : h ≡ y = some-injective h y (sym at ∙ (rw (e, ← same) at at_home)) in
      let blocks : Some block ≡ Some b = sym has ∙ (ap (λ (x : Home E B). x.block) home_is ∙ holds) in
      let block_is : block ≡ b = cc in rw (e, ← lock_is, ← block_is) (at_last xs (at_n, block) n count))
      (λ (ne : i ≢ n). at_longer xs ((at_n, block) ∷ []) i (lock, b) (done i lock y b (omega arith) at_lock at_home holds)))
