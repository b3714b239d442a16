-- The list of blocks: the slot of a lock in it, what an edit at that slot leaves, and that a
-- section keeps the list in agreement.
use Rattle.std.proofs.Common.{◌≡◌, ℕ, zero, suc, ◌+◌, ◌<◌, true, false, List, [], ◌∷◌, length, get_or, drop, slice_set, if◌then◌else◌, Option, Some}
use Rattle.std.proofs.Common.{IsSome, option_map, sym, subst, arith}
use Rattle.event_log.{specs.{declared.ids.LockId.LockId, History.same_lock, Sections.Section}, proofs.Same.{same_lock_self, same_lock_true}}
use Rattle.{event_log.proofs.ListLemmas.from_index, layer_traits.{proofs.Alone.block_there, specs.Protocols.{OneLock.opened, Protocol.Rules}}}
use Rattle.plain_layers.specs.Tables.{IsSlot, IsTable}

module _ {B : Type 0} (lock : LockId) where
  -- the first entry names the lock
  pub slot_here : (blocks : List (LockId × B)) (i : ℕ) (o : LockId × B) → i < length blocks → o ≡ get_or blocks i o → same_lock o.0 lock ≡ true
      → ((n : ℕ) → IsSlot lock n (drop i blocks) → IsSlot lock (i + n) blocks) → IsSlot lock i blocks
  slot_here blocks i o within is same slot =
      let at : IsSlot lock 0 (drop i blocks) = subst (IsSlot lock 0) (sym (from_index blocks i o within is)) same in
      let same_slot : i + 0 ≡ i = omega arith in
      subst (λ n. IsSlot lock n blocks) same_slot (slot 0 at)

  -- the first entry names another lock
  pub slot_later : (blocks : List (LockId × B)) (i : ℕ) (o : LockId × B) → i < length blocks → o ≡ get_or blocks i o → same_lock o.0 lock ≡ false
      → ((n : ℕ) → IsSlot lock n (drop i blocks) → IsSlot lock (i + n) blocks) → (n : ℕ) → IsSlot lock n (drop (i + 1) blocks) → IsSlot lock (i + 1 + n) blocks
  slot_later blocks i o within is other slot n at =
      let here : IsSlot lock (suc n) (drop i blocks) = subst (IsSlot lock (suc n)) (sym (from_index blocks i o within is)) (other, at) in
      let same_slot : i + suc n ≡ i + 1 + n = omega arith in
      subst (λ n. IsSlot lock n blocks) same_slot (slot (suc n) here)

  pub there_later : (blocks : List (LockId × B)) (i : ℕ) (o : LockId × B) → i < length blocks → o ≡ get_or blocks i o → same_lock o.0 lock ≡ false
      → IsSome (opened (drop i blocks) lock) → IsSome (opened (drop (i + 1) blocks) lock)
  there_later blocks i o within is other there = grind (arith, from_index)

  pub slot_within : (n : ℕ) (blocks : List (LockId × B)) → IsSlot lock n blocks → n < length blocks
  slot_within n [] at = absurd at
  slot_within zero (x ∷ rest) at = omega arith
  slot_within (suc n) (x ∷ rest) at = let below = slot_within n rest at.1 in omega (arith, below)

  -- the entry at the slot has the block of the lock
  pub slot_reads : (n : ℕ) (blocks : List (LockId × B)) (o : LockId × B) → IsSlot lock n blocks → o ≡ get_or blocks n o
      → (same_lock o.0 lock ≡ true) × (opened blocks lock ≡ Some o.1)
  slot_reads n [] o at is = absurd at
  slot_reads zero (x ∷ rest) o at is = (grind arith, grind arith)
  slot_reads (suc n) (x ∷ rest) o at is = let tells = slot_reads n rest o at.1 is in (tells.0, grind arith)

  -- with another block at the slot the lock has that one, and each other lock the one that it had
  slot_set : (n : ℕ) (blocks : List (LockId × B)) (o : LockId × B) → IsSlot lock n blocks → same_lock o.0 lock ≡ true → (l : LockId)
      → opened (slice_set blocks n o) l ≡ (if same_lock l lock then Some o.1 else opened blocks l)
  slot_set n [] o at same l = absurd at
  slot_set zero (x ∷ rest) o at same l = grind (arith, same_lock_true, same_lock_self)
  slot_set (suc n) (x ∷ rest) o at same l = grind (arith, same_lock_true, slot_set n rest o at.1 same l)

  -- so with the edited block there
  pub slot_edited : (f : B → B) (n : ℕ) (blocks : List (LockId × B)) (o : LockId × B) (block : B) → IsSlot lock n blocks → o ≡ get_or blocks n o → block ≡ f o.1
      → (l : LockId) → opened (slice_set blocks n (o.0, block)) l ≡ (if same_lock l lock then option_map f (opened blocks l) else opened blocks l)
  slot_edited f n blocks o block at is edits l = grind (arith, slot_reads, slot_set, same_lock_true)

module _ {E B O : Type 0} (protocol : Rules E B O) (opening : LockId → Option B) (past : List (Section E)) (list : List (LockId × B))
    (table : IsTable protocol opening past list) (lock : LockId) where
  -- a lock that opened with a block has one in the list
  pub block_is_there : IsSome (opening lock) → IsSome (opened list lock)
  block_is_there there = rw table.blocks (block_there protocol.edited opening lock past there)
