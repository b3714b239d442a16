-- The table of lock cells, by the locks' numbers, and what the actions make of a cell.
use Rattle.std.specs.Prelude.{◌≡◌, Bool, List, [], ◌∷◌, Option, Some, None, if◌then◌else◌}
use Rattle.std.specs.Prelude.{slice_index_or, slice_set}
use Rattle.event_log.specs.{declared.ids.LockId.LockId, Locks.lock_number}
use Rattle.plain_machine.specs.declared.cells.Cell.{Cell}

-- the cell of a lock, None if the table has none
abbrev pub cell_at : {K B : Type 0} → List (Option (Cell K B)) → LockId → Option (Cell K B)
cell_at cells lock = slice_index_or cells (lock_number lock) None

-- the block in a cell, while no CPU has it
abbrev pub home_in : {K B : Type 0} → Option (Cell K B) → Option B
home_in None = None
home_in (Some cell) = cell.home

-- the block of a lock in the table, while no CPU has it
abbrev pub home_at : {K B : Type 0} → List (Option (Cell K B)) → LockId → Option B
home_at cells lock = home_in (cell_at cells lock)

-- the table with this cell put in the lock's slot
abbrev pub with_cell : {K B : Type 0} → List (Option (Cell K B)) → LockId → Cell K B
    → List (Option (Cell K B))
with_cell cells lock cell = slice_set cells (lock_number lock) (Some cell)

-- the cell with other words
abbrev pub worded_cell : {K B : Type 0} → Cell K B → K → Cell K B
worded_cell cell words = record cell { words = words }

-- the cell after a poll: if it succeeds, the block has left
abbrev pub looked_cell : {K B : Type 0} → Cell K B → Bool → Cell K B
looked_cell cell hit = if hit then record cell { home = None } else cell

-- the cell with these words and the block put back
abbrev pub given_cell : {K B : Type 0} → K → B → Cell K B
given_cell words block = record { words = words; home = Some block }

-- the lock has a cell with fresh words and this block
pub record HasFresh {K B : Type 0} (IsNew : K → Type 0) (block : B)
    (cell : Option (Cell K B)) : Type 0 where
  pub words : K
  pub new : IsNew words
  pub is : cell ≡ Some (given_cell words block)

-- each of these locks has a cell with fresh words and its block
abbrev pub AreFresh : {K B : Type 0} → (K → Type 0) → List (LockId × B) → List (Option (Cell K B))
    → Type 0
AreFresh IsNew [] cells = Unit {0}
AreFresh IsNew (o ∷ rest) cells = HasFresh IsNew o.1 (cell_at cells o.0) × AreFresh IsNew rest cells
