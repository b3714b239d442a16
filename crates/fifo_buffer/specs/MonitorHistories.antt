-- The history of a monitor: the block that its sections leave, the effects among them, and the two
-- laws of its lines. First come, first served, for each side; and no lost wake-up.
use Rattle.std.specs.Prelude.{◌≡◌, ℕ, ◌<◌, Bool, true, false, not, ◌&&◌, List, [], ◌∷◌, ◌++◌}
use Rattle.std.specs.Prelude.{slice_get, Option, Some, None, option_map, option_to_list}
use Rattle.std.specs.{Prelude.if◌then◌else◌, List.AllByRecursion}
use Rattle.event_log.specs.declared.{entries.Entry.Entry, ids.{BufId.BufId, CpuId.CpuId}}
use Rattle.event_log.specs.declared.ids.{LockId.{LockId, TheVariants.{Pending, Buffer}}, Tid.Tid}
use Rattle.event_log.specs.{declared.ids.TheConstants.THREADS, History.same_lock, Sections.Section}
use Rattle.{event_log.specs.Sections.block_after, layer_traits.specs.declared.calls.Effect.Effect}
use Rattle.layer_traits.specs.declared.locked.Side.{Side, TheVariants.{Receivers, Senders}}
use Rattle.layer_traits.specs.{declared.moves.WaitList.WaitList, Blocks.BufferBlocks.may_go}
use Rattle.layer_traits.specs.Layers.{BufferLaw.entry_of, Sleeping.{SleepState, sleep_edited}}
use Rattle.layer_traits.specs.Layers.Sleeping.{wait_list_at, wait_list_of}
use Rattle.{thread_blocks.specs.Queues.{first, is_in}, fifo_buffer.specs.Served.served}
use Rattle.fifo_buffer.specs.Monitors.{MonitorState, buffer_alone, empty_monitor, front_of}
use Rattle.fifo_buffer.specs.Monitors.{monitor_effect, monitor_line, monitor_rules, monitor_told_by}
use Rattle.fifo_buffer.specs.MonitorSections.{turn_side}
use Rattle.fifo_buffer.specs.declared.monitor_blocks.Front.TheVariants.{Owed}
use Rattle.fifo_buffer.specs.declared.monitor_blocks.MonitorEdit.{MonitorEdit}
use Rattle.layer_traits.specs.declared.moves.WaitList.TheVariants as wait_list

-- a monitor with the wait lists of its lock
abbrev pub MonitorLocked : Type 0
MonitorLocked = SleepState MonitorState

-- a monitor with room for so many items, at which no thread waits
abbrev pub fresh_monitor : ℕ → MonitorLocked
fresh_monitor capacity =
    record { sleepers = []; receivers = []; senders = []; above = empty_monitor capacity }

-- the monitors of these capacities
abbrev pub fresh_monitors : List ℕ → LockId → Option MonitorLocked
fresh_monitors caps (Pending d) = None
fresh_monitors caps (Buffer b) = option_map fresh_monitor (slice_get caps b.0)

-- a lock after these sections
abbrev pub monitor_after : (LockId → Option MonitorLocked) → LockId → List (Section MonitorEdit)
    → Option MonitorLocked
monitor_after opening lock past = block_after (sleep_edited monitor_rules) opening lock past

-- the effect of a section at a monitor, if it has one
abbrev pub monitor_effect_by : MonitorEdit → Option MonitorLocked → Option Effect
monitor_effect_by e None = None
monitor_effect_by e (Some state) = monitor_effect (monitor_told_by e.thread e.ask state.above)

-- the entry of a section at a lock
abbrev pub monitor_entry : CpuId → LockId → MonitorEdit → Option MonitorLocked → Option Entry
monitor_entry c (Pending d) e state = None
monitor_entry c (Buffer b) e state = option_map (entry_of c e.thread b) (monitor_effect_by e state)

-- the effects of these sections
abbrev pub monitor_entries : (LockId → Option MonitorLocked) → List (Section MonitorEdit)
    → List Entry
monitor_entries opening [] = []
monitor_entries opening (s ∷ past) =
    option_to_list (monitor_entry s.cpu s.lock s.edit (monitor_after opening s.lock past))
    ++ monitor_entries opening past

-- the threads that sleep at a monitor
abbrev pub monitor_lists : (LockId → Option MonitorLocked) → List (Section MonitorEdit) → BufId
    → WaitList → List Tid
monitor_lists opening past b line = wait_list_at line (monitor_after opening (Buffer b) past)

-- the wait list of a side
abbrev pub sleeping_on : Side → WaitList
sleeping_on Receivers = wait_list.Receivers
sleeping_on Senders = wait_list.Senders

-- two sides, perhaps none, are one
abbrev pub is_on_side : Side → Option Side → Bool
is_on_side side None = false
is_on_side Receivers (Some Receivers) = true
is_on_side Receivers (Some Senders) = false
is_on_side Senders (Some Receivers) = false
is_on_side Senders (Some Senders) = true

-- with this section a call of a side arrives at a monitor: its thread is not in the line yet. Until
-- its call takes effect, a thread that has arrived remains in the line
abbrev pub joins_monitor : Side → MonitorEdit → Option MonitorLocked → Bool
joins_monitor side e None = false
joins_monitor side e (Some state) =
    is_on_side side (turn_side e.ask) && not (is_in e.thread (monitor_line side state.above))

-- the threads whose calls of a side arrived at a lock's monitor in these sections, oldest first
abbrev pub comers : Side → LockId → (LockId → Option MonitorLocked) → List (Section MonitorEdit)
    → List Tid
comers side lock opening [] = []
comers side lock opening (s ∷ past) =
    if same_lock lock s.lock && joins_monitor side s.edit (monitor_after opening lock past)
    then comers side lock opening past ++ s.edit.thread ∷ []
    else comers side lock opening past

-- each section is of a thread that a machine may have
abbrev pub AreOfThreads : List (Section MonitorEdit) → Type 0
AreOfThreads past = AllByRecursion (λ s. s.edit.thread.0 < THREADS) past

-- First come, first served: the threads whose calls of a side arrived, oldest first, are those
-- whose calls of this side took effect, in the order of these effects, followed by those in the
-- line.
abbrev pub MonitorServesInOrder : Type 0
MonitorServesInOrder =
    (opening : LockId → Option MonitorLocked) (caps : List ℕ) (past : List (Section MonitorEdit))
    → opening ≡ fresh_monitors caps
    → AreOfThreads past → (b : BufId) (side : Side) (state : MonitorLocked)
    → monitor_after opening (Buffer b) past ≡ Some state
    → comers side (Buffer b) opening past
    ≡ served side b.0 (monitor_entries opening past) ++ monitor_line side state.above

-- No lost wake-up: if the first of a line sleeps though the buffer allows its call, some thread
-- owes it a wake-up. While no thread owes one, no first sleeps whose call is allowed.
abbrev pub MonitorLosesNoWakeUp : Type 0
MonitorLosesNoWakeUp =
    (opening : LockId → Option MonitorLocked) (caps : List ℕ) (past : List (Section MonitorEdit))
    → opening ≡ fresh_monitors caps
    → (b : BufId) (side : Side) (state : MonitorLocked)
    → monitor_after opening (Buffer b) past ≡ Some state
    → (u : Tid) → first (monitor_line side state.above) ≡ Some u
    → is_in u (wait_list_of (sleeping_on side) state) ≡ true
    → may_go side (buffer_alone state.above) ≡ true
    → (t : Tid) × (front_of side state.above ≡ Owed t)
