-- What a changed node leaves of a queue in a table of nodes.
use Rattle.std.proofs.Common.{◌≡◌, ◌≢◌, ℕ, ◌<◌, false, List, [], ◌∷◌, ◌++◌, length, sym, ap, ◌∙◌, subst, ◌⊎◌, Option, Some, None, IfSome}
use Rattle.std.proofs.Common.{arith}
use Rattle.{std.proofs.lemmas.{Bool.{true≢false}, Option.same_Some}, event_log.specs.declared.ids.Tid.Tid, thread_blocks.specs.Queues.same_tid}
use Rattle.thread_blocks.{specs.Links.{walk, AreLinked, Changed}, proofs.Members.{same_tid_self, same_tid_true}}

-- the node is none of these threads
abbrev pub IsOff : Option Tid → List Tid → Type 0
IsOff at [] = Unit {0}
IsOff at (x ∷ xs) = (Some x ≢ at) × IsOff at xs

-- no thread occurs here twice
abbrev pub AreDistinct : List Tid → Type 0
AreDistinct [] = Unit {0}
AreDistinct (x ∷ xs) = IsOff (Some x) xs × AreDistinct xs

-- each of these numbers is less than n
abbrev pub AreBelow : ℕ → List Tid → Type 0
AreBelow n [] = Unit {0}
AreBelow n (x ∷ xs) = (x.0 < n) × AreBelow n xs

other_way : {A : Type 0} {a b : A} → a ≢ b → b ≢ a
other_way differ same = differ (sym same)

pub no_end : {t : Tid} → None ≢ Some t
no_end same = absurd cc

-- two threads are two nodes
pub other_node : (a b : Tid) → same_tid a b ≡ false → Some a ≢ Some b
other_node a b differ same = true≢false (sym (same_tid_self a) ∙ ap (same_tid a) (same_Some a b same) ∙ differ)

pub same_node : (a b : Option Tid) → (a ≡ b) ⊎ (a ≢ b)
same_node a b = grind (arith, same_tid_self, same_tid_true)

off_left : (at : Option Tid) (ys zs : List Tid) → IsOff at (ys ++ zs) → IsOff at ys
off_left at [] zs off = tt
off_left at (y ∷ ys) zs off = (off.0, off_left at ys zs off.1)

off_right : (at : Option Tid) (ys zs : List Tid) → IsOff at (ys ++ zs) → IsOff at zs
off_right at [] zs off = off
off_right at (y ∷ ys) zs off = off_right at ys zs off.1

pub below_at : (n : ℕ) (ys : List Tid) (t : Tid) (zs : List Tid) → AreBelow n (ys ++ t ∷ zs) → t.0 < n
below_at n [] t zs all = all.0
below_at n (y ∷ ys) t zs all = below_at n ys t zs all.1

pub below_behind : (n : ℕ) (ys : List Tid) (t : Tid) (zs : List Tid) → AreBelow n (ys ++ t ∷ zs) → AreBelow n zs
below_behind n [] t zs all = all.1
below_behind n (y ∷ ys) t zs all = below_behind n ys t zs all.1

-- walking as many links as there are threads meets exactly these threads
pub walk_is : (next prev : Option Tid → Option Tid) (at : Option Tid) (xs : List Tid) → AreLinked next prev at xs → walk next (next at) (length xs) ≡ xs
walk_is next prev at [] linked = ap (λ node. walk next node 0) linked.0
walk_is next prev at (x ∷ xs) linked = grind (arith, walk_is next prev (Some x) xs linked.2)

module _ (next prev : Option Tid → Option Tid) where
  -- the links after a thread
  pub linked_from : (at : Option Tid) (ys : List Tid) (t : Tid) (zs : List Tid) → AreLinked next prev at (ys ++ t ∷ zs) → AreLinked next prev (Some t) zs
  linked_from at [] t zs linked = linked.2
  linked_from at (y ∷ ys) t zs linked = linked_from (Some y) ys t zs linked.2

  not_before : (at : Option Tid) (ys : List Tid) (t : Tid) (zs : List Tid) (other : Option Tid) → AreLinked next prev at (ys ++ t ∷ zs)
      → at ≢ other → IsOff other ys → prev (Some t) ≢ other
  not_before at [] t zs other linked differ off = λ same. differ (sym linked.1 ∙ same)
  not_before at (y ∷ ys) t zs other linked differ off = not_before (Some y) ys t zs other linked.2 off.0 off.1

  not_last : (at : Option Tid) (xs : List Tid) (other : Option Tid) → AreLinked next prev at xs → at ≢ other → IsOff other xs → prev None ≢ other
  not_last at [] other linked differ off = λ same. differ (sym linked.1 ∙ same)
  not_last at (x ∷ xs) other linked differ off = not_last (Some x) xs other linked.2 off.0 off.1

  not_after : (at : Option Tid) (zs : List Tid) (other : Option Tid) → AreLinked next prev at zs → None ≢ other → IsOff other zs → next at ≢ other
  not_after at [] other linked differ off = λ same. differ (sym linked.0 ∙ same)
  not_after at (z ∷ zs) other linked differ off = λ same. off.0 (sym linked.0 ∙ same)

  -- the node before a thread is one of the tables'
  pub before_below : (n : ℕ) (at : Option Tid) (ys : List Tid) (t : Tid) (zs : List Tid) → AreLinked next prev at (ys ++ t ∷ zs)
      → IfSome at (λ u. u.0 < n) → AreBelow n (ys ++ t ∷ zs) → IfSome (prev (Some t)) (λ u. u.0 < n)
  before_below n at [] t zs linked below all = subst (λ (node : Option Tid). IfSome node (λ u. u.0 < n)) (sym linked.1) below
  before_below n at (y ∷ ys) t zs linked below all = before_below n (Some y) ys t zs linked.2 all.0 all.1

  -- the node after a node is one of the tables'
  pub after_below : (n : ℕ) (at : Option Tid) (zs : List Tid) → AreLinked next prev at zs → AreBelow n zs → IfSome (next at) (λ u. u.0 < n)
  after_below n at [] linked all = subst (λ (node : Option Tid). IfSome node (λ u. u.0 < n)) (sym linked.0) tt
  after_below n at (z ∷ zs) linked all = subst (λ (node : Option Tid). IfSome node (λ u. u.0 < n)) (sym linked.0) all.0

  -- the last node is one of the tables'
  pub last_below : (n : ℕ) (at : Option Tid) (xs : List Tid) → AreLinked next prev at xs → IfSome at (λ u. u.0 < n) → AreBelow n xs
      → IfSome (prev None) (λ u. u.0 < n)
  last_below n at [] linked below all = subst (λ (node : Option Tid). IfSome node (λ u. u.0 < n)) (sym linked.1) below
  last_below n at (x ∷ xs) linked below all = last_below n (Some x) xs linked.2 all.0 all.1

  -- links that are no others than these stay
  module _ {next' prev' : Option Tid → Option Tid} where
    stay : {p n p_leads n_leads : Option Tid} → Changed next next' p p_leads → Changed prev prev' n n_leads → (at : Option Tid) (xs : List Tid)
        → at ≢ p → IsOff p xs → None ≢ n → IsOff n xs → AreLinked next prev at xs → AreLinked next' prev' at xs
    stay nexts prevs at [] at_off xs_off end_off back_off linked = (nexts.there at at_off ∙ linked.0, prevs.there None end_off ∙ linked.1)
    stay nexts prevs at (x ∷ xs) at_off xs_off end_off back_off linked =
        grind (arith, stay nexts prevs (Some x) xs xs_off.0 xs_off.1 end_off back_off.1 linked.2)

    module _ (t : Tid) (nexts : Changed next next' (prev (Some t)) (next (Some t))) (prevs : Changed prev prev' (next (Some t)) (prev (Some t))) where
      unlinked_here : (at : Option Tid) (zs : List Tid) → IsOff at zs → AreDistinct zs → AreLinked next prev at (t ∷ zs) → AreLinked next' prev' at zs
      unlinked_here at [] off distinct linked = grind (arith, nexts, prevs)
      unlinked_here at (z ∷ zs) off distinct linked = grind (arith, nexts, prevs, stay nexts prevs (Some z) zs)

      -- if the node before t leads to the one after it, and that one back, t is removed
      pub unlinked_between : (at : Option Tid) (ys zs : List Tid) → IsOff at (ys ++ t ∷ zs) → AreDistinct (ys ++ t ∷ zs) → AreLinked next prev at (ys ++ t ∷ zs)
          → AreLinked next' prev' at (ys ++ zs)
      unlinked_between at [] zs off distinct linked = unlinked_here at zs off.1 distinct.1 linked
      unlinked_between at (y ∷ ys) zs off distinct linked = (
        nexts.there at (other_way (not_before (Some y) ys t zs at linked.2 off.0 (off_left at ys (t ∷ zs) off.1))) ∙ linked.0,
        prevs.there (Some y) (other_way (not_after (Some t) zs (Some y) (linked_from (Some y) ys t zs linked.2) no_end
            (off_right (Some y) ys (t ∷ zs) distinct.0).1)) ∙ linked.1,
        unlinked_between (Some y) ys zs distinct.0 distinct.1 linked.2,
      )

  -- if the last node leads to t and t to the end, and back, t is after the others
  module _ {next1 next' prev1 prev' : Option Tid → Option Tid} (t : Tid)
      (to_new : Changed next next1 (prev None) (Some t)) (new_to_end : Changed next1 next' (Some t) None)
      (new_back : Changed prev prev1 (Some t) (prev None)) (end_back : Changed prev1 prev' None (Some t)) where
    pub linked_behind : (at : Option Tid) (xs : List Tid) → at ≢ Some t → IsOff (Some t) xs → IsOff at xs → AreDistinct xs → AreLinked next prev at xs
        → AreLinked next' prev' at (xs ++ t ∷ [])
    linked_behind at [] differ new off distinct linked = grind (arith, to_new, new_to_end, new_back, end_back)
    linked_behind at (x ∷ xs) differ new off distinct linked =
        grind (arith, other_way, not_last, no_end, linked_behind (Some x) xs new.0 new.1 distinct.0 distinct.1 linked.2)
