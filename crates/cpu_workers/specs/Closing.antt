-- The workers of one table of the tower's locks, once their threads are joined and the table is
-- closed.
use Rattle.std.specs.Prelude.{◌≡◌, ℕ, ◌*◌, ◌^◌, ◌<◌, ◌≤◌, false, List, length, map, Option, Some}
use Rattle.std.specs.{Prelude.{IsSome, option_map, slice_get}, List.AllByRecursion}
use Rattle.event_log.specs.declared.{entries.Entry.Entry, events.Event.Event, ids.CpuId.CpuId}
use Rattle.event_log.specs.declared.ids.{LockId.{LockId, TheVariants.Pending}, TheConstants.BUFFERS}
use Rattle.event_log.specs.{declared.ids.Tid.Tid, Actions.{Action, AreLegal, acts_of, phase}}
use Rattle.event_log.specs.Actions.{renamed}
use Rattle.layer_traits.specs.declared.buffer_edits.{BufferEdit.BufferEdit, BufferReply.BufferReply}
use Rattle.layer_traits.specs.declared.conditions.{CvEdit.CvEdit, CvLeave.CvLeave, CvReply.CvReply}
use Rattle.layer_traits.specs.declared.{edits.Mark.Mark, locked.QLockReply.QLockReply}
use Rattle.layer_traits.specs.declared.queue_edits.{QueueBlock.QueueBlock, QueueEdit.QueueEdit}
use Rattle.layer_traits.specs.declared.{queue_edits.QueueAnswer.QueueAnswer, sleeps.Outcome.Outcome}
use Rattle.layer_traits.specs.Blocks.{BufferBlocks.BufferState, BufferEffects.opening_locks}
use Rattle.layer_traits.specs.Blocks.{BufferProtocol.buffer_monitor_rules, QueueBlocks.StartsWell}
use Rattle.layer_traits.specs.Blocks.{QueueBlocks.{homes_in, inner}, QueueRules.queue_rules}
use Rattle.layer_traits.specs.{Layers.Conditions.cv_rules, Protocols.OneLock.opened}
use Rattle.layer_traits.specs.Protocols.{Protocol.Rules, WordsProtocol.edit_of}
use Rattle.layer_traits.specs.{Threads.Places.home_of, Polling.Plans.is_in_section}
use Rattle.layer_traits.specs.Views.Renaming.{renamed_edit, viewed, viewed_block}
use Rattle.sleep_wakeup.specs.declared.edits.{SleepBlock.SleepBlock, SleepEdit.SleepEdit}
use Rattle.sleep_wakeup.specs.Nested.{nested_moves, nested_rules, state_of}
use Rattle.queuing_lock.specs.declared.edits.{QLockBlock.QLockBlock, QLockSection.QLockSection}
use Rattle.queuing_lock.specs.Nested.{busy_rules, nested_lock_of}
use Rattle.table_machine.specs.SeatViews.{TableView, ClosesTable, SeatView}
use Rattle.cpu.specs.Table.{Blocks.Block, Setups.{SystemConfig, CpuLocal, boot_of, program_of}}
use Rattle.cpu.specs.{Table.{Setups.thread_at, Steps.{cpu_step, halted_at}}, Cpus.IsOfHome}
use Rattle.cpu.specs.{Cpus.of_thread, Tower.{Composed.named, Views.{TowerBlock, TowerName, view}}}
use Rattle.cpu_workers.specs.declared.workers.gates.Go.{Go, TheVariants.{Limit, Pass}}
use Rattle.cpu_workers.specs.declared.workers.stops.Stop.{Stop, TheVariants.{Held, TurnsUsed}}
use Rattle.cpu_workers.specs.Lawful.{IsLawfulReport, IsCpuReportOf, CpuReport, ReportView}
use Rattle.cpu_workers.specs.{Orders.{FollowsProgram, IsTraceOf}, Reports.{IsTrueStop, MayTakeTurn}}
use Rattle.cpu_workers.specs.Reports.{Walked, TookWithin, WasHeld, PassedAtEach, AskedAtEach}
use Rattle.sleep_wakeup.specs.Nested as sleep
use Rattle.queuing_lock.specs.Nested as lock

-- the tower's edit of the block of a lock, the block, and the result of an edit
abbrev pub LockEdit : Type 0
LockEdit = SleepEdit (QLockSection (CvEdit BufferEdit) CvLeave)

abbrev pub LockBlock : Type 0
LockBlock = SleepBlock (QLockBlock BufferState)

abbrev pub LockReply : Type 0
LockReply = Outcome (QLockReply (CvReply BufferReply))

-- a words log of the tower's locks
abbrev pub WordsOfTower : Type 0
WordsOfTower = List (Event (Mark (QueueEdit LockEdit)))

-- the key of a CPU at a table of these locks
abbrev pub Key : Type 0
Key = SeatView (QueueEdit LockEdit) (QueueBlock LockBlock)

-- what the tower's edits mean
abbrev pub tower_rules : Rules (QueueEdit LockEdit) (QueueBlock LockBlock) (QueueAnswer LockReply)
tower_rules =
    queue_rules (nested_rules (busy_rules (cv_rules buffer_monitor_rules)))
    (nested_moves (busy_rules (cv_rules buffer_monitor_rules)))

-- the actions of a words log, under the names of the layers over it
abbrev pub acts_in : WordsOfTower → List (Action TowerName)
acts_in log =
    map (renamed (renamed_edit lock.lock_call))
    (map (renamed (renamed_edit sleep.slept_edit)) (acts_of edit_of log))

-- opening blocks, as the layers above see them
abbrev pub seen_above : (LockId → Option (QueueBlock LockBlock)) → LockId → Option TowerBlock
seen_above opening = viewed nested_lock_of (viewed state_of opening)

-- a block of the tower's locks, as the step table has blocks
abbrev pub block_shown : Option (QueueBlock LockBlock) → Option Block
block_shown o =
    option_map view (option_map (viewed_block nested_lock_of)
    (option_map (viewed_block state_of) o))

-- the block of each lock in a list of locks with their blocks, as the step table has blocks
abbrev pub blocks_read : List (LockId × QueueBlock LockBlock) → LockId → Option Block
blocks_read blocks lock = block_shown (opened blocks lock)

-- A table that opened with the locks of this setup: a queue for each of its CPUs, with the homes of
-- its threads, and its buffers. Each buffer is empty, under a free lock with no sleepers. There is
-- a CPU, and all traces together have less than 2^64 entries.
pub record StartsSo (setup : SystemConfig) (table_view : TableView (QueueBlock LockBlock)) : Type
    0 where
  pub some : 0 < setup.cpus
  pub cpus : table_view.cpus ≡ setup.cpus
  pub starts : StartsWell (opened table_view.start)
  pub homes : homes_in (opened table_view.start) ≡ setup.homes
  pub queues : (c : CpuId) → c.0 < setup.cpus → IsSome (opened table_view.start (Pending c))
  pub locks : inner (seen_above (opened table_view.start)) ≡ opening_locks setup.caps
  pub buffers : length setup.caps ≤ BUFFERS
  pub small : setup.cpus * setup.trace_room < 2 ^ 64

-- What a CPU did that has seen these actions. It went from boot to its last state by the step
-- table, in exactly as many steps as its row reports. At the end no section of the CPU is under
-- way.
--
-- Between two sections it took a turn only below so many, and only if the gate may have let it pass
-- at each turn. The gate was asked with the number of turns taken. If the CPU was held, it took no
-- such turn after a `Limit`. The gate was asked before each turn, also inside a section, until it
-- returned `Limit`. If all turns are used, it may have let the CPU pass at each.
--
-- The CPU's stop is true of its last state, and its trace is its effects in what it has seen. The
-- trace is within its room, each entry is of a home thread, and each home thread followed its
-- program.
pub record HasSeen (setup : SystemConfig) (May : Go → ℕ → Type 0) (turns : ℕ) (c : CpuId)
    (acts : List (Action TowerName)) (line : CpuReport) : Type 0 where
  pub last : CpuLocal
  pub took : Walked (cpu_step setup c) c (boot_of setup c) last (named acts) line.taken
  pub within : TookWithin (cpu_step setup c) c (MayTakeTurn turns (May Pass)) (boot_of setup c) last
      (named acts) line.taken
  pub held : line.stop ≡ Held
      → WasHeld (cpu_step setup c) c (May Limit) (boot_of setup c) last (named acts) line.taken
  pub asked : AskedAtEach May line.taken
  pub used : line.stop ≡ TurnsUsed → PassedAtEach (May Pass) line.taken
  pub rests : is_in_section (phase c (named acts)) ≡ false
  pub stop_is : IsTrueStop (halted_at setup c last) (May Limit) turns line.taken line.stop
  pub trace_is : line.trace ≡ last.trace
  pub local : IsTraceOf c setup.caps acts line.trace
  pub legal : AreLegal acts
  pub room : length line.trace ≤ setup.trace_room
  pub stays : AllByRecursion (IsOfHome setup.homes c) line.trace
  pub follows : (t : Tid) → home_of setup.homes t ≡ Some c
      → FollowsProgram (program_of setup t) (of_thread t.0 line.trace) (thread_at last t).ended

-- the report has a row for each worker that returned the key of its CPU, and no more rows
pub record HaveCome (setup : SystemConfig) (May : CpuId → Go → ℕ → Type 0) (turns : ℕ)
    (keys : List Key)
    (r : ReportView) : Type 0 where
  pub traces : length r.traces ≡ setup.cpus
  pub taken : length r.taken ≡ setup.cpus
  pub stops : length r.stops ≡ setup.cpus
  pub each : (c : CpuId) → c.0 < setup.cpus
      → (key : Key) × (line : CpuReport) × (slice_get keys c.0 ≡ Some key) × (key.cpu ≡ c)
      × IsCpuReportOf r c line
      × HasSeen setup (May c) turns c (acts_in key.history) line

-- a report of the closed table, whose blocks are those that `close` returned
abbrev pub shown : List (List Entry) → List ℕ → List Stop → List (LockId × QueueBlock LockBlock)
    → ReportView
shown traces taken stops blocks =
    record { traces = traces; taken = taken; stops = stops; blocks = blocks_read blocks }

-- the threads of a table's workers were joined, the table was closed with their keys and returned
-- these blocks, and this is the report
pub record IsReported (setup : SystemConfig) (May : CpuId → Go → ℕ → Type 0) (turns : ℕ)
    (table_view : TableView (QueueBlock LockBlock)) (keys : List Key)
    (blocks : List (LockId × QueueBlock LockBlock)) (r : ReportView) : Type 0 where
  pub starts : StartsSo setup table_view
  pub come : HaveCome setup May turns keys r
  pub closes : ClosesTable tower_rules table_view keys blocks
  pub told : r.blocks ≡ blocks_read blocks

-- such a report is lawful, whatever this gate may return
abbrev pub ReportsAreLawful : (CpuId → Go → ℕ → Type 0) → Type 0
ReportsAreLawful May =
    (setup : SystemConfig) (turns : ℕ) (table_view : TableView (QueueBlock LockBlock))
    (keys : List Key)
    (blocks : List (LockId × QueueBlock LockBlock)) (r : ReportView)
    → IsReported setup May turns table_view keys blocks r → IsLawfulReport setup May turns r
