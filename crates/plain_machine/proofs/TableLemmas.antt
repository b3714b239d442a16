-- A table of cells: what a write leaves, and that a table filled with fresh cells has them all.
use Rattle.std.proofs.Common.{◌≡◌, ℕ, ◌⊎◌, ◌<◌, ◌≤◌, false, List, [], ◌∷◌, ◌++◌, length, get_or, Option, Some, None, IsSome, ◌∙◌, All, arith}
use Rattle.std.proofs.lemmas.List.{get_or_past, get_or-set_same, get_or-set_other, Elements.{All-head, All-tail}}
use Rattle.event_log.{specs.{declared.ids.LockId.LockId, History.same_lock, Locks.lock_number}, proofs.Same.lock_number_other}
use Rattle.{layer_traits.specs.Protocols.OneLock.{AreDistinct, IsMissing}, plain_machine.specs.{declared.cells.Cell.Cell, Table.{cell_at, with_cell}}}
use Rattle.plain_machine.specs.Table.{given_cell, AreFresh}

module _ {K B : Type 0} (cells : List (Option (Cell K B))) (lock : LockId) where
  -- a lock that has a cell has its slot within the table
  pub cell_within : IsSome (cell_at cells lock) → lock_number lock < length cells
  cell_within has = grind (arith, get_or_past)

  -- the cell that was put is there
  pub cell_put : (cell : Cell K B) → lock_number lock < length cells → cell_at (with_cell cells lock cell) lock ≡ Some cell
  cell_put cell within = get_or-set_same cells (lock_number lock) (Some cell) None within

  -- and each other lock has the cell that it had
  pub cell_other : (cell : Cell K B) (l : LockId) → same_lock l lock ≡ false → cell_at (with_cell cells lock cell) l ≡ cell_at cells l
  cell_other cell l other = get_or-set_other cells (lock_number lock) (lock_number l) (Some cell) None (lock_number_other l lock other)

missing_mid : {B : Type 0} (lock : LockId) (xs : List (LockId × B)) (o : LockId × B) (ys : List (LockId × B)) → IsMissing lock (xs ++ o ∷ ys)
    → same_lock lock o.0 ≡ false
missing_mid lock [] o ys missing = missing.0
missing_mid lock (x ∷ xs) o ys missing = missing_mid lock xs o ys missing.1

-- one more fresh cell
pub fresh_more : {K B : Type 0} (IsNew : K → Type 0) (xs : List (LockId × B)) (o : LockId × B) (ys : List (LockId × B)) (cells : List (Option (Cell K B)))
    → AreDistinct (xs ++ o ∷ ys) → lock_number o.0 < length cells → (words : K) → IsNew words
    → AreFresh IsNew xs cells → AreFresh IsNew (xs ++ o ∷ []) (with_cell cells o.0 (given_cell words o.1))
fresh_more IsNew [] o ys cells distinct within words new fresh =
    (record { words = words; new = new; is = cell_put cells o.0 (given_cell words o.1) within }, tt)
fresh_more IsNew (x ∷ xs) o ys cells distinct within words new fresh = (
  record {
    words = fresh.0.words;
    new = fresh.0.new;
    is = cell_other cells o.0 (given_cell words o.1) x.0 (missing_mid x.0 xs o ys distinct.0) ∙ fresh.0.is;
  },
  fresh_more IsNew xs o ys cells distinct.1 within words new fresh.1,
)

-- what holds of all holds of one in the middle
pub all_mid : {X : Type 0} (P : X → Type 0) (xs : List X) (o : X) (ys : List X) → All P (xs ++ o ∷ ys) → P o
all_mid P [] o ys all = All-head P o ys all
all_mid P (x ∷ xs) o ys all = all_mid P xs o ys (All-tail P x (xs ++ o ∷ ys) all)
