-- Queues as lists in which no thread occurs twice.
use Rattle.std.proofs.Common.{◌≡◌, ◌≢◌, ℕ, ◌<◌, ◌≤◌, Bool, true, false, List, [], ◌∷◌, ◌++◌, length, refl, sym, ap, ◌∙◌, arith, subst, eqb, ◌||◌, suc, ◌==◌}
use Rattle.std.proofs.{Common.{slice_index_or, remove, Some, None}, lemmas.Bool.{or_parts, or_from, or_left, or_right, true≢false}}
use Rattle.std.proofs.lemmas.{List.Folds.list_any-append, Map.Keys.{IsDistinct-head, IsDistinct-tail, IsDistinct-cons, IsDistinct-push}}
use Rattle.std.{proofs.lemmas.Map.Steps.length-le_from_distinct_below, specs.{Cmp.IsEquivalence, List.{IsDistinct, AllByRecursion, list_any}}}
use Rattle.{event_log.specs.declared.ids.{Tid.Tid, TheConstants.THREADS}, thread_blocks.specs.Queues.{same_tid, is_in, first, rest, without, IsQueue}}
use Rattle.thread_blocks.proofs.{Linking.{IsOff, AreDistinct, AreBelow}, Members.{tid_numbered, same_tid_self, same_tid_true}}

laws : IsEquivalence same_tid
laws = grind arith

-- no thread is in the empty queue
pub queue_of_none : IsQueue []
unfolding IsDistinct
queue_of_none = (tt, λ t found. absurd cc)

numbers : List Tid → List ℕ
numbers [] = []
numbers (x ∷ queue) = x.0 ∷ numbers queue

length_numbers : (queue : List Tid) → length (numbers queue) ≡ length queue
unfolding numbers
length_numbers [] = refl
length_numbers (x ∷ queue) = ap suc (length_numbers queue)

is_numbered : (n : ℕ) (queue : List Tid) → list_any (eqb n) (numbers queue) ≡ is_in (tid_numbered n) queue
unfolding numbers
is_numbered n [] = refl
is_numbered n (x ∷ queue) = rw (is_numbered n queue) refl

apart_numbers : (t : Tid) (queue : List Tid) → AllByRecursion (λ y. same_tid t y ≡ false) queue → AllByRecursion (λ n. eqb t.0 n ≡ false) (numbers queue)
unfolding numbers
apart_numbers t [] apart = tt
apart_numbers t (x ∷ queue) apart = (apart.0, apart_numbers t queue apart.1)

distinct_numbers : (queue : List Tid) → IsDistinct same_tid queue → IsDistinct eqb (numbers queue)
unfolding numbers IsDistinct
distinct_numbers [] distinct = tt
distinct_numbers (x ∷ queue) distinct = (apart_numbers x queue distinct.0, distinct_numbers queue distinct.1)

-- a queue is no longer than there are threads
no_more : (queue : List Tid) → IsQueue queue → length queue ≤ THREADS
no_more queue is = subst (λ n. n ≤ THREADS) (length_numbers queue)
    (length-le_from_distinct_below (numbers queue) THREADS (distinct_numbers queue is.0) (λ n found. is.1 (tid_numbered n) (sym (is_numbered n queue) ∙ found)))

not_apart : (t : Tid) (queue : List Tid) → is_in t queue ≡ false → AllByRecursion (λ y. same_tid t y ≡ false) queue
not_apart t [] new = tt
not_apart t (x ∷ queue) new = let parts = or_parts _ _ new in (parts.0, not_apart t queue parts.1)

one_more : (queue : List Tid) (t : Tid) → IsQueue queue → t.0 < THREADS → is_in t queue ≡ false → IsQueue (t ∷ queue)
one_more queue t is known new = (IsDistinct-cons same_tid t queue (not_apart t queue new) is.0, λ u found. grind (arith, is.1 u))

-- there is room for one more
pub has_room : (queue : List Tid) (t : Tid) → IsQueue queue → t.0 < THREADS → is_in t queue ≡ false → length queue < THREADS
has_room queue t is known new = omega (arith, no_more (t ∷ queue) (one_more queue t is known new))

pub apart_is : (t : Tid) (queue : List Tid) → AllByRecursion (λ y. same_tid t y ≡ false) queue → is_in t queue ≡ false
apart_is t [] apart = refl
apart_is t (x ∷ queue) apart = or_from _ _ apart.0 (apart_is t queue apart.1)

-- one more thread at the back
pub queue_pushed : (queue : List Tid) (t : Tid) → IsQueue queue → t.0 < THREADS → is_in t queue ≡ false → IsQueue (queue ++ t ∷ [])
queue_pushed queue t is known new = (IsDistinct-push laws queue t is.0 new, λ u found. grind (arith, is.1 u, list_any-append))

others_apart : (t x : Tid) (queue : List Tid) → AllByRecursion (λ y. same_tid x y ≡ false) queue → AllByRecursion (λ y. same_tid x y ≡ false) (without t queue)
others_apart t x [] apart = tt
others_apart t x (y ∷ queue) apart = grind (arith, others_apart t x queue apart.1)

distinct_without : (t : Tid) (queue : List Tid) → IsDistinct same_tid queue → IsDistinct same_tid (without t queue)
unfolding IsDistinct
distinct_without t [] distinct = tt
distinct_without t (x ∷ queue) distinct = grind (arith, others_apart t x queue distinct.0, distinct_without t queue distinct.1)

in_without : (u t : Tid) (queue : List Tid) → is_in u (without t queue) ≡ true → is_in u queue ≡ true
in_without u t [] found = found
in_without u t (x ∷ queue) found = grind (arith, in_without u t queue)

-- a thread taken out
pub taken_out : (t : Tid) (queue : List Tid) → IsQueue queue → IsQueue (without t queue)
taken_out t queue is = (distinct_without t queue is.0, λ u found. is.1 u (in_without u t queue found))

-- removing a thread that is not there removes nothing
pub without_none : (t : Tid) (queue : List Tid) → is_in t queue ≡ false → without t queue ≡ queue
without_none t [] absent = refl
without_none t (x ∷ queue) absent = grind (arith, without_none t queue)

-- a thread that occurs once is removed from between the others
pub without_parted : (t : Tid) (ys zs : List Tid) → is_in t ys ≡ false → is_in t zs ≡ false → without t (ys ++ t ∷ zs) ≡ ys ++ zs
without_parted t [] zs before after = grind (arith, same_tid_self, without_none)
without_parted t (y ∷ ys) zs before after = grind (arith, without_parted t ys zs)

-- a removed thread is absent
pub taken_absent : (t : Tid) (queue : List Tid) → is_in t (without t queue) ≡ false
taken_absent t [] = refl
taken_absent t (x ∷ queue) = grind (arith, taken_absent t queue)

-- the others stay in their places
pub others_stay : (u t : Tid) (queue : List Tid) → same_tid u t ≡ false → is_in u (without t queue) ≡ is_in u queue
others_stay u t [] differ = refl
others_stay u t (x ∷ queue) differ = grind (arith, others_stay u t queue differ)

-- which threads are in a queue with one more at its back
pub pushed_in : (u t : Tid) (queue : List Tid) → is_in u (queue ++ t ∷ []) ≡ (is_in u queue || (same_tid u t || false))
pushed_in u t queue = list_any-append (same_tid u) queue (t ∷ [])

parts_step : (t y : Tid) (ys zs : List Tid) → AllByRecursion (λ z. same_tid y z ≡ false) (ys ++ t ∷ zs) → same_tid t y ≡ false
parts_step t y [] zs apart = laws.symm t y ∙ apart.0
parts_step t y (x ∷ ys) zs apart = parts_step t y ys zs apart.1

-- a thread of a queue is neither before nor after itself
pub distinct_parts : (t : Tid) (ys zs : List Tid) → IsDistinct same_tid (ys ++ t ∷ zs) → (is_in t ys ≡ false) × (is_in t zs ≡ false)
unfolding IsDistinct
distinct_parts t [] zs distinct = (refl, apart_is t zs distinct.0)
distinct_parts t (y ∷ ys) zs distinct = let later = distinct_parts t ys zs distinct.1 in (or_from _ _ (parts_step t y ys zs distinct.0) later.0, later.1)

-- where a thread is in a list
pub record Parted (t : Tid) (queue : List Tid) : Type 0 where
  pub before : List Tid
  pub after : List Tid
  pub is : queue ≡ before ++ t ∷ after

parted_step : (b : Bool) (t x : Tid) (queue : List Tid) → same_tid t x ≡ b → (is_in t queue ≡ true → Parted t queue) → (b || is_in t queue) ≡ true
    → Parted t (x ∷ queue)
parted_step true t x queue same later found = record { before = []; after = queue; is = ap (λ (y : Tid). y ∷ queue) (sym (same_tid_true t x same)) }
parted_step false t x queue same later found =
    let p = later found in record { before = x ∷ p.before; after = p.after; is = ap (λ (ys : List Tid). x ∷ ys) p.is }

pub parted : (t : Tid) (queue : List Tid) → is_in t queue ≡ true → Parted t queue
parted t [] found = absurd (true≢false (sym found))
parted t (x ∷ queue) found = parted_step (same_tid t x) t x queue refl (parted t queue) found

-- a thread of a queue is between others, which are left when it is removed
pub record Split (t : Tid) (queue : List Tid) : Type 0 where
  pub before : List Tid
  pub after : List Tid
  pub is : queue ≡ before ++ t ∷ after
  pub left : without t queue ≡ before ++ after

pub queue_split : (t : Tid) (queue : List Tid) → IsDistinct same_tid queue → is_in t queue ≡ true → Split t queue
queue_split t queue distinct found =
    let p = parted t queue found in
    let apart = distinct_parts t p.before p.after (subst (IsDistinct same_tid) p.is distinct) in
    record { before = p.before; after = p.after; is = p.is; left = ap (without t) p.is ∙ without_parted t p.before p.after apart.0 apart.1 }

-- the first thread is one of the machine's, and is not after itself
pub first_known : (t : Tid) (queue : List Tid) → IsQueue (t ∷ queue) → t.0 < THREADS
first_known t queue is = is.1 t (or_left _ _ (same_tid_self t))

-- the others are a queue too
pub queue_behind : (t : Tid) (queue : List Tid) → IsQueue (t ∷ queue) → IsQueue queue
queue_behind t queue is = (IsDistinct-tail same_tid t queue is.0, λ u found. is.1 u (or_right _ _ found))

-- a list that is not empty is the thread at 0 before the others
pub front_out : (queue : List Tid) (t : Tid) → (length queue == 0) ≡ false → t ≡ slice_index_or queue 0 t → queue ≡ t ∷ remove queue 0
front_out queue t some is = grind arith

pub first_once : (t : Tid) (queue : List Tid) → IsQueue (t ∷ queue) → is_in t queue ≡ false
first_once t queue is = apart_is t queue (IsDistinct-head same_tid t queue is.0)

-- a thread that is not in a queue is not its first, and is not after the first
pub out_of_rest : (t : Tid) (queue : List Tid) → is_in t queue ≡ false → (first queue ≢ Some t) × (is_in t (rest queue) ≡ false)
out_of_rest t queue out = grind (arith, same_tid_self)

-- the same in terms of links
pub is_off_absent : (t : Tid) (queue : List Tid) → is_in t queue ≡ false → IsOff (Some t) queue
is_off_absent t [] absent = tt
is_off_absent t (x ∷ queue) absent = grind (arith, same_tid_self, is_off_absent t queue)

pub all_off_end : (queue : List Tid) → IsOff None queue
all_off_end [] = tt
all_off_end (x ∷ queue) = (λ same. absurd cc, all_off_end queue)

pub all_distinct : (queue : List Tid) → IsDistinct same_tid queue → AreDistinct queue
unfolding IsDistinct
all_distinct [] distinct = tt
all_distinct (x ∷ queue) distinct = (is_off_absent x queue (apart_is x queue distinct.0), all_distinct queue distinct.1)

pub all_below : (n : ℕ) (queue : List Tid) → ((t : Tid) → is_in t queue ≡ true → t.0 < n) → AreBelow n queue
all_below n [] all = tt
all_below n (x ∷ queue) all = (all x (or_left _ _ (same_tid_self x)), all_below n queue (λ t found. all t (or_right _ _ found)))
