-- The blocks in the table are what the sections leave, and a block that is not there is in some
-- CPU's hands.
use Rattle.std.specs.Prelude.{◌≡◌, ℕ, List, Option, Some, None, MatchOption}
use Rattle.event_log.specs.{declared.{events.Event.Event, ids.LockId.LockId}, Sections.block_after}
use Rattle.layer_traits.specs.{declared.edits.Mark.Mark, Protocols.OneLock.NoneInside}
use Rattle.layer_traits.specs.Protocols.{OneLock.SomeoneInside, WordsProtocol.sections}
use Rattle.plain_machine.specs.{declared.cells.Cell.Cell, Machine.HasCell, Table.home_at}

pub home_reads : {E B K : Type 0} (Coupling : ℕ → ℕ → K → Type 0) (edited : E → B → B)
    (opening : LockId → Option B) (log : List (Event (Mark E)))
    (cells : List (Option (Cell K B))) (lock : LockId)
    → HasCell Coupling edited opening log cells lock
    → MatchOption (home_at cells lock) (SomeoneInside lock log)
    (λ block. block_after edited opening lock (sections log) ≡ Some block)
home_reads {B = B} Coupling edited opening log cells lock has =
    rw has.is (go has.cell.home has.home_is)
  where
    go : (home : Option B) → MatchOption home (SomeoneInside lock log)
        (λ block. NoneInside lock log
        × (block_after edited opening lock (sections log) ≡ Some block))
        → MatchOption home (SomeoneInside lock log)
        (λ block. block_after edited opening lock (sections log) ≡ Some block)
    go None inside = inside
    go (Some block) is = is.1
