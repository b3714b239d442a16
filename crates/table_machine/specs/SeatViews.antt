-- What a caller knows of a table, of a key and of a seat, and what `close` guarantees.
use Rattle.std.specs.Prelude.{◌≡◌, ℕ, zero, suc, ◌<◌, ◌≤◌, List, [], ◌∷◌, ◌++◌, length, slice_get}
use Rattle.std.specs.Prelude.{Some}
use Rattle.{atomic_table.specs.{Seated.TableId, Table.Me}, event_log.specs.declared.ids.CpuId.CpuId}
use Rattle.event_log.specs.{declared.{ids.LockId.LockId, events.Event.Event}, History.IsLawful}
use Rattle.event_log.specs.{History.own_events, WordsLog.{cpu_of_event, LockPhase, Idle, Waiting}}
use Rattle.event_log.specs.{WordsLog.{Holding, lock_phase}, Sections.block_after}
use Rattle.layer_traits.specs.{declared.edits.Mark.Mark, Protocols.Protocol.Rules}
use Rattle.layer_traits.specs.Protocols.{WordsProtocol.{MayCome, sections}, OneLock.opened}
use Rattle.table_machine.specs.{declared.views.{Home.Home, View.View}, Layout.rank_of}
use Rattle.table_machine.specs.Views.{caught_up, mine, Has, EndsWith, IsSince}

-- a table to its callers: its identity, the blocks that it opened with, and its number of CPUs
pub record TableView (B : Type 0) : Type 0 where
  pub table : TableId
  pub start : List (LockId × B)
  pub cpus : ℕ

-- a key or a seat to its callers: its CPU, its table, the opening blocks, and the log that it has
-- seen, newest first
pub record SeatView (E B : Type 0) : Type 0 where
  pub cpu : CpuId
  pub table : TableId
  pub start : List (LockId × B)
  pub history : List (Event (Mark E))

-- the identity of a table, as numbers
abbrev pub site_of : TableId → List ℕ
site_of table =
    table.words ∷ table.slots ∷ table.views_name ∷ table.atom ∷ table.block ∷ table.offset
    ∷ table.slot_names

-- the seat view is one of this table
abbrev pub IsOf : {E B : Type 0} → TableView B → SeatView E B → Type 0
IsOf table_view seat_view =
    (seat_view.table ≡ table_view.table) × (seat_view.start ≡ table_view.start)

-- the seat view of a CPU that has seen nothing
abbrev pub new_seat_view : {E B : Type 0} → TableView B → ℕ → SeatView E B
new_seat_view table_view cpu =
    record {
      cpu = record { 0 = cpu };
      table = table_view.table;
      start = table_view.start;
      history = [];
    }

-- the seat views of the first CPUs, in their order
abbrev pub new_seat_views : {E B : Type 0} → TableView B → ℕ → List (SeatView E B)
new_seat_views table_view zero = []
new_seat_views table_view (suc count) =
    new_seat_views table_view count ++ new_seat_view table_view count ∷ []

-- the slot that a CPU carries: that of the lock that it is inside
abbrev pub Carries : {E B : Type 0} → List (LockId × B) → LockPhase → List (ℕ × Home E B) → Type 0
Carries start Idle held = held ≡ []
Carries start (Waiting lock ticket) held = held ≡ []
Carries start (Holding lock ticket) held =
    (home : Home _ _) × (held ≡ (rank_of start lock, home) ∷ [])

-- the ticket that a CPU waits with, or is inside with, is this one
abbrev pub Remembers : ℕ → LockPhase → Type 0
Remembers ticket Idle = Unit {0}
Remembers ticket (Waiting lock local) = ticket ≡ local
Remembers ticket (Holding lock local) = ticket ≡ local

-- The token of a key. It sees the log for this CPU, carries the slot of the lock that the CPU is
-- inside, and what it has seen is legal. The key remembers the CPU's ticket.
pub record IsKey {E B O : Type 0} (protocol : Rules E B O) (cpu : CpuId) (ticket : ℕ)
    (me : Me (Home E B) (View E B)) : Type 0 where
  pub view : me.0 ≡ mine me.0.start cpu me.0.history
  pub held : Carries me.0.start (lock_phase cpu me.0.history) me.1
  pub remembers : Remembers ticket (lock_phase cpu me.0.history)
  pub legal : IsLawful (MayCome (protocol.allowed (opened me.0.start))) me.0.history

-- a seat view of this table whose CPU has no ticket outstanding
pub record IsOver {E B : Type 0} (table_view : TableView B) (seat_view : SeatView E B) : Type
    0 where
  pub table : seat_view.table ≡ table_view.table
  pub outside : lock_phase seat_view.cpu seat_view.history ≡ Idle

-- a closing seat has merged these seat views: it acts for their CPUs, which have no ticket
-- outstanding, and extends what each has seen
pub record Gathered {E B : Type 0} (start : List (LockId × B)) (v : View E B)
    (seat_views : List (SeatView E B)) : Type 0 where
  pub view : v ≡ caught_up start v.cpus v.history
  pub keys : (i : ℕ) (d : SeatView E B) → slice_get seat_views i ≡ Some d
      → Has d.cpu v.cpus × IsSince v.history d.history d.cpu
  pub quiet : (c : CpuId) → Has c v.cpus → lock_phase c v.history ≡ Idle

-- each CPU of the table has a seat view among these
abbrev pub Covers : {E B : Type 0} → ℕ → List (SeatView E B) → Type 0
Covers cpus seat_views =
    (c : CpuId) → c.0 < cpus
    → (i : ℕ) × (seat_view : SeatView _ _) × (slice_get seat_views i ≡ Some seat_view)
    × (seat_view.cpu ≡ c)

-- what this seat view has seen is a prefix of the log, which has no further event of its CPU
pub record IsIn {E B : Type 0} (log : List (Event (Mark E))) (seat_view : SeatView E B) : Type
    0 where
  pub ends : EndsWith log seat_view.history
  pub whole : own_events cpu_of_event seat_view.cpu log
      ≡ own_events cpu_of_event seat_view.cpu seat_view.history

-- There is one legal log of which each seat view's log is a prefix, with no further event of any of
-- their CPUs. Each block is the fold of its lock's sections.
pub record ClosesTable {E B O : Type 0} (protocol : Rules E B O) (table_view : TableView B)
    (seat_views : List (SeatView E B))
    (blocks : List (LockId × B)) : Type 0 where
  pub log : List (Event (Mark E))
  pub legal : IsLawful (MayCome (protocol.allowed (opened table_view.start))) log
  pub keys : (i : ℕ) (seat_view : SeatView E B) → slice_get seat_views i ≡ Some seat_view
      → IsIn log seat_view
  pub rest : (c : CpuId) → table_view.cpus ≤ c.0 → own_events cpu_of_event c log ≡ []
  pub count : length blocks ≡ length table_view.start
  pub blocks_are : (i : ℕ) (o : LockId × B) → slice_get table_view.start i ≡ Some o
      → (b : B) × (slice_get blocks i ≡ Some (o.0, b))
      × (block_after protocol.edited (opened table_view.start) o.0 (sections log) ≡ Some b)
