-- What the owned machine shows, and when its table agrees with its log.
use Rattle.std.specs.Prelude.{◌≡◌, ℕ, ◌-◌, ◌%◌, ◌^◌, ◌<◌, List, ◌∷◌, reverse, sum_by, Option, Some}
use Rattle.std.specs.Prelude.{IsSome}
use Rattle.event_log.specs.declared.ids.{CpuId.CpuId, LockId.LockId, TheConstants.CPUS}
use Rattle.event_log.specs.{declared.events.Event.Event, History.IsLawful, Log.{events_in, room_of}}
use Rattle.{event_log.specs.WordsLog.{draws, frees}, layer_traits.specs.declared.edits.Mark.Mark}
use Rattle.layer_traits.specs.Protocols.{OneLock.HomeFits, Protocol.Rules, WordsProtocol.MayCome}
use Rattle.plain_machine.specs.{declared.{cells.Cell.Cell, notes.Notes.Notes}, Stored.told}
use Rattle.plain_machine.specs.{Stored.weight, Table.cell_at}
use Rattle.event_log.specs.declared.events.Event.TheVariants as event

-- the history that a log stores, newest first
abbrev pub event_list : {M : Type 0} → Notes M → List (Event M)
event_list log = told (reverse (events_in log.notes)) (reverse (events_in log.marks))

-- the past after a poll of a CPU with its ticket, which reads the number of earlier frees
abbrev pub looked : {M : Type 0} → CpuId → LockId → ℕ → List (Event M) → List (Event M)
looked cpu lock ticket past = event.Look cpu lock ticket (frees lock past % 2 ^ 64) ∷ past

-- how many more events a log has room for
abbrev pub room_left : {M : Type 0} → Notes M → ℕ
room_left log = room_of log.notes - sum_by weight (events_in log.notes)

-- the lock has a cell, whose words are those of the two counts in the log, and whose block is the
-- one that the log gives
pub record HasCell {E B K : Type 0} (Coupling : ℕ → ℕ → K → Type 0) (edited : E → B → B)
    (opening : LockId → Option B) (log : List (Event (Mark E)))
    (cells : List (Option (Cell K B))) (lock : LockId) : Type 0 where
  pub cell : Cell K B
  pub is : cell_at cells lock ≡ Some cell
  pub words : Coupling (draws lock log) (frees lock log) cell.words
  pub home_is : HomeFits edited opening log lock cell.home

-- the log keeps the protocol, and each lock's cell is the log's
pub record IsSound {E B O K : Type 0} (Coupling : ℕ → ℕ → K → Type 0) (protocol : Rules E B O)
    (opening : LockId → Option B) (log : List (Event (Mark E)))
    (cells : List (Option (Cell K B))) : Type 0
  where
    pub legal : IsLawful (MayCome (protocol.allowed opening)) log
    pub coupled : (lock : LockId) → IsSome (opening lock)
        → HasCell Coupling protocol.edited opening log cells lock

-- the machine acts for a CPU: it is one that a machine may have, and the table agrees with the log
abbrev pub IsServed : {E B O K : Type 0} → (ℕ → ℕ → K → Type 0) → Rules E B O → (LockId → Option B)
    → List (Event (Mark E)) → List (Option (Cell K B))
    → CpuId → Type 0
IsServed Coupling protocol opening log cells cpu =
    (cpu.0 < CPUS) × IsSound Coupling protocol opening log cells
