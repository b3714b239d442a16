-- Lists of threads: which threads are in them, and which is first.
use Rattle.std.proofs.{Common.{◌≡◌, ℕ, true, false, ◌||◌, List, [], ◌∷◌, ◌++◌, Some, None, slice_get, slice_set, ap, arith}, lemmas.Bool.{or_parts, or_from}}
use Rattle.std.proofs.lemmas.Option.{slice_get_within}
use Rattle.{event_log.{specs.declared.ids.Tid.Tid, proofs.ListLemmas.set_there}, thread_blocks.specs.Queues.{same_tid, is_in, first}}
use Rattle.{thread_blocks.proofs.Members.same_tid_true, layer_traits.specs.{Layers.Sleeping.joined, Blocks.BufferBlocks.is_first}}
pub use Rattle.event_log.proofs.BoolLemmas.{refuted}

pub none_is_not : {A : Type 0} {t : Tid} → None ≡ Some t → A
none_is_not {A = A} {t = t} same = absurd (cc same)

-- the first of a line is the thread in front
pub first_is : (t : Tid) (line : List Tid) → is_first t line ≡ true → first line ≡ Some t
first_is t line is = grind (arith, same_tid_true)

-- a thread in a list after a thread was appended is that thread, or was in it before
pub in_end : (u t : Tid) (list : List Tid) → is_in u list ≡ false → same_tid u t ≡ false → is_in u (list ++ t ∷ []) ≡ false
in_end u t [] absent other = ap (λ b. b || false) other
in_end u t (x ∷ list) absent other =
    let parts = or_parts (same_tid u x) (is_in u list) absent in
    or_from (same_tid u x) (is_in u (list ++ t ∷ [])) parts.0 (in_end u t list parts.1 other)

pub in_joined : (u t : Tid) (list : List Tid) → is_in u list ≡ false → same_tid u t ≡ false → is_in u (joined t list) ≡ false
in_joined u t list absent other = grind (arith, in_end)

-- for one list in two forms, the heads and the tails are the same
pub same_head : {X : Type 0} (a b : X) (p q : List X) → a ∷ p ≡ b ∷ q → a ≡ b
same_head a b p q is = cc

pub same_tail : {X : Type 0} (a b : X) (p q : List X) → a ∷ p ≡ b ∷ q → p ≡ q
same_tail a b p q is = cc

-- a value written over another is read
pub set_here : {X : Type 0} (xs : List X) (i : ℕ) (p x : X) → slice_get xs i ≡ Some p → slice_get (slice_set xs i x) i ≡ Some x
set_here xs i p x is = set_there xs i x (slice_get_within xs i p is)
