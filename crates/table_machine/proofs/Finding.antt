-- The position of a lock among those of the opening.
use Rattle.std.proofs.Common.{◌≡◌, ℕ, zero, suc, ◌<◌, Bool, true, false, if◌then◌else◌, List, [], ◌∷◌, length, map, Some, IsSome, refl, ap, sym, ◌∙◌, arith}
use Rattle.event_log.{specs.{declared.ids.LockId.LockId, History.same_lock}, proofs.Same.{same_lock_true, same_lock_self}}
use Rattle.{layer_traits.specs.Protocols.OneLock.{opened, IsMissing, AreDistinct}, table_machine.specs.Layout.rank_of}
use mathlib.Core.Option.{some, some-injective, some-ne-none}
use lib.ListN.{get_elem?}

module _ {B : Type 0} where
  -- two locks of the opening with one rank are one lock
  pub rank_same : (start : List (LockId × B)) (a b : LockId) → IsSome (opened start a) → rank_of start a ≡ rank_of start b → a ≡ b
  rank_same [] a b there e = absurd cc
  rank_same (o ∷ rest) a b there e = grind (arith, same_lock_true, rank_same rest a b)

  pub rank_below : (start : List (LockId × B)) (a : LockId) → IsSome (opened start a) → rank_of start a < length start
  rank_below [] a there = absurd cc
  rank_below (o ∷ rest) a there = grind (arith, rank_below rest a)

  -- the opening block of a lock is at its rank, through any reading of the blocks
  pub opened_there : {C : Type 0} (f : B → C) (start : List (LockId × B)) (a : LockId) → IsSome (opened start a)
      → (b : B) × (opened start a ≡ Some b) × (get_elem? (map (λ o. f o.1) start) (rank_of start a) ≡ some (f b))
  opened_there f [] a there = absurd cc
  opened_there f (o ∷ rest) a there = go (opened_there f rest a) (same_lock o.0 a) refl
    where
      go : (IsSome (opened rest a) → (b : B) × (opened rest a ≡ Some b) × (get_elem? (map (λ o. f o.1) rest) (rank_of rest a) ≡ some (f b))) → (p : Bool)
          → same_lock o.0 a ≡ p → (b : B) × (opened (o ∷ rest) a ≡ Some b) × (get_elem? (map (λ o. f o.1) (o ∷ rest)) (rank_of (o ∷ rest) a) ≡ some (f b))
      go later true p = (o.1, rw p refl, rw p refl)
      go later false p = let more = later (rw p at there) in (more.0, rw p more.1, rw p more.2)

  missing_at : (start : List (LockId × B)) (a : LockId) (i : ℕ) (o : LockId × B) → IsMissing a start → get_elem? start i ≡ some o → same_lock a o.0 ≡ false
  missing_at [] a i o h at = absurd (some-ne-none o (sym at))
  missing_at (p ∷ rest) a zero o h at = rw (some-injective p o at) at h.0
  missing_at (p ∷ rest) a (suc i) o h at = missing_at rest a i o h.1 at

  -- if no lock occurs twice, the lock at a rank has that rank
  pub rank_at : (start : List (LockId × B)) (i : ℕ) (o : LockId × B) → AreDistinct start → get_elem? start i ≡ some o
      → (rank_of start o.0 ≡ i) × IsSome (opened start o.0)
  rank_at [] i o h at = absurd (some-ne-none o (sym at))
  rank_at (p ∷ rest) zero o h at = let same : same_lock p.0 o.0 ≡ true = rw (← (some-injective p o at)) (same_lock_self p.0) in (rw same refl, rw same refl)
  rank_at (p ∷ rest) (suc i) o h at =
      let other : same_lock p.0 o.0 ≡ false = missing_at rest p.0 i o h.0 at in
      let more = rank_at rest i o h.1 at in (rw other (ap suc more.0), rw other more.1)
