-- Counting in threads: sections that each add 1 to one number, and what a worker leaves: its CPU
-- has done so many more sections.
use Rattle.std.specs.Prelude.{◌≡◌, ℕ, zero, suc, ◌+◌, ◌%◌, ◌^◌, ◌≤◌, true, List, [], ◌∷◌, slice_get}
use Rattle.std.specs.Prelude.{Some}
use Rattle.event_log.specs.{Actions.{Action, Take, Try, Give}, declared.ids.CpuId.CpuId}
use Rattle.event_log.specs.{declared.{ids.LockId.LockId, events.Event.Event}, History.IsLawful}
use Rattle.event_log.specs.{History.{how_many, own_events, same_lock}, WordsLog.cpu_of_event}
use Rattle.event_log.specs.{WordsLog.{frees, lock_phase, Idle}, Sections.{Section, cpu_of_section}}
use Rattle.layer_traits.specs.{declared.edits.Mark.Mark, Protocols.{OneLock.opened, Protocol.Rules}}
use Rattle.layer_traits.specs.Protocols.WordsProtocol.{MayCome, sections}
use Rattle.table_machine.specs.SeatViews.{TableView, SeatView, IsIn, new_seat_view}
use Rattle.cpu_workers.specs.declared.counting.{AddOne.AddOne, counted.Counted.Counted}
use Rattle.{cpu_workers.specs.Reports.Both, boot.specs.declared.locks.LockKind.LockKind}

-- what adding 1 means: the number rises by 1 modulo 2^64, and the result is the number before; any
-- CPU may do it at any time
abbrev pub counting : Rules AddOne ℕ ℕ
counting =
    record {
      edited = λ edit number. (number + 1) % 2 ^ 64;
      answer = λ edit number. number;
      allowed = λ opening past s. Unit {0};
    }

-- how many of these sections are at this lock
abbrev pub sections_at : {E : Type 0} → LockId → List (Section E) → ℕ
sections_at lock past = how_many (λ s. same_lock lock s.lock) past

-- how many sections at this lock are this CPU's
abbrev pub made : {E : Type 0} → CpuId → LockId → List (Section E) → ℕ
made cpu lock past = sections_at lock (own_events cpu_of_section cpu past)

-- the actions after a whole section of the CPU of this number: it took a place, entered and
-- released the lock
abbrev pub actions_after_section : LockId → ℕ → List (Action AddOne) → List (Action AddOne)
actions_after_section lock number past =
    Give (record { 0 = number }) lock (record {}) ∷ Try (record { 0 = number }) lock true
    ∷ Take (record { 0 = number }) lock ∷ past

-- the actions after a round: a whole section of each of so many CPUs, from CPU 0 on
abbrev pub after_round : LockId → ℕ → List (Action AddOne) → List (Action AddOne)
after_round lock zero past = past
after_round lock (suc before) past =
    actions_after_section lock before (after_round lock before past)

-- the actions after so many rounds of so many CPUs
abbrev pub after_rounds : LockId → ℕ → ℕ → List (Action AddOne) → List (Action AddOne)
after_rounds lock cpus zero past = past
after_rounds lock cpus (suc before) past =
    after_round lock cpus (after_rounds lock cpus before past)

-- a key of this table that has seen nothing
abbrev pub IsFresh : {E B : Type 0} → TableView B → SeatView E B → Type 0
IsFresh table_view seat_view = seat_view ≡ new_seat_view table_view seat_view.cpu.0

-- the key is returned after so many sections of its CPU
pub record HasMade {E B : Type 0} (lock : LockId) (old new : SeatView E B) (times : ℕ) : Type
    0 where
  pub cpu : new.cpu ≡ old.cpu
  pub table : new.table ≡ old.table
  pub outside : lock_phase new.cpu new.history ≡ Idle
  pub more : made old.cpu lock (sections new.history)
      ≡ made old.cpu lock (sections old.history) + times

-- each key is returned after so many sections of its CPU
abbrev pub AllHaveMade : {E B : Type 0} → LockId → List (SeatView E B) → List (SeatView E B) → ℕ
    → Type 0
AllHaveMade lock old new times = Both (λ d e. HasMade lock d e times) old new

-- how often this lock was released in one legal log of the table, which contains all seat views
-- whole, without other CPUs' events
pub record IsNumberOfFrees {E B O : Type 0} (protocol : Rules E B O) (lock : LockId)
    (table_view : TableView B) (seat_views : List (SeatView E B))
    (number : ℕ) : Type 0 where
  pub log : List (Event (Mark E))
  pub legal : IsLawful (MayCome (protocol.allowed (opened table_view.start))) log
  pub keys : (i : ℕ) (seat_view : SeatView E B) → slice_get seat_views i ≡ Some seat_view
      → IsIn log seat_view
  pub rest : (c : CpuId) → table_view.cpus ≤ c.0 → own_events cpu_of_event c log ≡ []
  pub is : number ≡ frees lock log

-- nothing was counted: none of so many CPUs did a section, the locks are of this kind, and the
-- number is 0
abbrev pub IsUncounted : Counted → ℕ → LockKind → Type 0
IsUncounted left cpus lock =
    (left.number ≡ 0) × (left.times ≡ 0) × (left.cpus ≡ cpus) × (left.lock ≡ lock)
