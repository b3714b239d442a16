-- What the report of workers states: one order of their traces, and the run of each by the step
-- table along one list of actions.
use Rattle.std.specs.Prelude.{◌≡◌, ℕ, ◌<◌, ◌≤◌, false, List, [], length, reverse, Option, Some}
use Rattle.std.specs.{Prelude.{None, slice_get}, List.AllByRecursion}
use Rattle.event_log.specs.declared.{entries.Entry.Entry, ids.{BufId.BufId, CpuId.CpuId}}
use Rattle.event_log.specs.declared.ids.LockId.{LockId, TheVariants.{Pending, Buffer as AtBuffer}}
use Rattle.event_log.specs.{declared.ids.Tid.Tid, Actions.{Action, AreLegal, cpu_of_action, phase}}
use Rattle.event_log.specs.{History.own_events, Messages.Message, Runs.IsLegalHistory}
use Rattle.event_log.specs.{Streams.IsFirstInFirstOut, Traces.IsInterleaving}
use Rattle.guest.specs.{Calls.{AreProgramsCalls, IsProgramsCalls, HasEnded}, State.State}
use Rattle.layer_traits.specs.{Threads.Places.home_of, Polling.Plans.is_in_section}
use Rattle.cpu.specs.{Claims.{buffer_at, listed}, Cpus.{IsOfHome, of_thread}, Table.Blocks.Block}
use Rattle.cpu.specs.Table.{Blocks.{Buffer, Name, OfBuffer, OfPending}, Setups.SystemConfig}
use Rattle.cpu.specs.Table.{Setups.{CpuLocal, boot_of, program_of}, Steps.{block_at, cpu_step}}
use Rattle.cpu.specs.{Table.Steps.halted_at, Wakeups.Lost.NoWakeUpIsLost}
use Rattle.cpu_workers.specs.declared.workers.gates.Go.{Go, TheVariants.{Limit, Pass}}
use Rattle.cpu_workers.specs.declared.workers.stops.Stop.{Stop, TheVariants.{AllEnded, TurnsUsed}}
use Rattle.cpu_workers.specs.{declared.workers.stops.Stop.TheVariants.Held, Reports.IsTrueStop}
use Rattle.cpu_workers.specs.Reports.{MayHold, MayTakeTurn, Walked, TookWithin, WasHeld}
use Rattle.cpu_workers.specs.Reports.{PassedAtEach, AskedAtEach}

-- a report's row for one CPU: its trace, oldest first, how many turns it took, and why it stopped
pub record CpuReport : Type 0 where
  pub trace : List Entry
  pub taken : ℕ
  pub stop : Stop

-- a report as plain data: the traces, the turns taken and the stops of all CPUs, and each lock's
-- block, in the step table's form
pub record ReportView : Type 0 where
  pub traces : List (List Entry)
  pub taken : List ℕ
  pub stops : List Stop
  pub blocks : LockId → Option Block

-- the report has this row at the CPU's number
pub record IsCpuReportOf (r : ReportView) (c : CpuId) (line : CpuReport) : Type 0 where
  pub trace : slice_get r.traces c.0 ≡ Some line.trace
  pub taken : slice_get r.taken c.0 ≡ Some line.taken
  pub stop : slice_get r.stops c.0 ≡ Some line.stop

-- the messages in a block, first in front
abbrev pub messages_in : Option Block → List Message
messages_in None = []
messages_in (Some (OfBuffer k)) = k.items
messages_in (Some (OfPending threads)) = []

-- what a buffer holds among these blocks
abbrev pub held_at : (LockId → Option Block) → BufId → List Message
held_at blocks b = messages_in (blocks (AtBuffer b))

-- what is left in the first n buffers
abbrev pub left_in : ℕ → ReportView → List (List Message)
left_in n r = listed (λ b. held_at r.blocks (buffer_at b)) 0 n

-- the program of a thread has ended after these entries, oldest first
pub record EndsAt (setup : SystemConfig) (t : Tid) (entries : List Entry) : Type 0 where
  pub state : State
  pub calls : IsProgramsCalls (program_of setup t) (reverse entries) state
  pub ends : HasEnded (program_of setup t) state

-- The row of a CPU is true:
-- - Its trace is within its room, each entry is of a home thread, and a thread's entries are its
--   program's calls.
-- - It stopped with `AllEnded` only if all programs of home threads have ended.
-- - It stopped with `TurnsUsed` only after its turns, and with `Held` only if the gate may have
--   held it.
pub record ReportsTrue (setup : SystemConfig) (May : Go → ℕ → Type 0) (turns : ℕ) (c : CpuId)
    (line : CpuReport) : Type 0 where
  pub room : length line.trace ≤ setup.trace_room
  pub stays : AllByRecursion (IsOfHome setup.homes c) line.trace
  pub calls : (t : Tid) → home_of setup.homes t ≡ Some c
      → AreProgramsCalls (program_of setup t) (of_thread t.0 line.trace)
  pub ended : line.stop ≡ AllEnded → (t : Tid) → home_of setup.homes t ≡ Some c
      → EndsAt setup t (of_thread t.0 line.trace)
  pub used : line.stop ≡ TurnsUsed → turns ≤ line.taken
  pub held : line.stop ≡ Held → MayHold (May Limit) line.taken

-- A report of workers: its lists have one element for each CPU. Its traces have one order that
-- keeps each of them, is a legal history of FIFO buffers and ends in what the blocks hold. For each
-- buffer the values put are, in that order, the values taken, followed by what its block holds. The
-- row of each CPU is true.
pub record IsReport (setup : SystemConfig) (May : CpuId → Go → ℕ → Type 0) (turns : ℕ)
    (r : ReportView) : Type 0 where
  pub traces_count : length r.traces ≡ setup.cpus
  pub taken_count : length r.taken ≡ setup.cpus
  pub stops_count : length r.stops ≡ setup.cpus
  pub order : List Entry
  pub keeps : IsInterleaving r.traces order
  pub run : IsLegalHistory setup.caps order (left_in (length setup.caps) r)
  pub fifo : IsFirstInFirstOut order (left_in (length setup.caps) r)
  pub each : (c : CpuId) → c.0 < setup.cpus
      → (line : CpuReport) × IsCpuReportOf r c line × ReportsTrue setup (May c) turns c line

-- A CPU went along this list of actions by the step table. It went from boot to its last state, in
-- exactly as many steps as its row reports. At the end no section of the CPU is under way.
--
-- Between two sections it took a turn only below so many, and only if the gate may have let it pass
-- at each turn. The gate was asked with the number of turns taken. If the CPU was held, it took no
-- such turn after a `Limit`. The gate was asked before each turn, also inside a section, until it
-- returned `Limit`. If all turns are used, it may have let the CPU pass at each.
--
-- The row has the CPU's trace, and its stop is true of the CPU's last state.
pub record HasGone (setup : SystemConfig) (May : Go → ℕ → Type 0) (turns : ℕ) (c : CpuId)
    (log : List (Action Name)) (line : CpuReport) : Type 0 where
  pub last : CpuLocal
  pub trace_is : line.trace ≡ last.trace
  pub took : Walked (cpu_step setup c) c (boot_of setup c) last log line.taken
  pub within : TookWithin (cpu_step setup c) c (MayTakeTurn turns (May Pass)) (boot_of setup c) last
      log line.taken
  pub held : line.stop ≡ Held
      → WasHeld (cpu_step setup c) c (May Limit) (boot_of setup c) last log line.taken
  pub asked : AskedAtEach May line.taken
  pub used : line.stop ≡ TurnsUsed → PassedAtEach (May Pass) line.taken
  pub rests : is_in_section (phase c log) ≡ false
  pub stop_is : IsTrueStop (halted_at setup c last) (May Limit) turns line.taken line.stop

-- the blocks are what the sections of these actions leave
pub record AreLeft (setup : SystemConfig) (log : List (Action Name)) (r : ReportView) : Type 0 where
  pub buffers : (b : BufId) → r.blocks (AtBuffer b) ≡ block_at setup (AtBuffer b) log
  pub queues : (c : CpuId) → c.0 < setup.cpus
      → r.blocks (Pending c) ≡ block_at setup (Pending c) log

-- a lawful report: there is one legal list of actions along which each CPU went by the step table,
-- and which has no other actions. The blocks are what the list leaves, and no wake-up is lost in
-- them.
pub record IsLawfulReport (setup : SystemConfig) (May : CpuId → Go → ℕ → Type 0) (turns : ℕ)
    (r : ReportView) : Type 0 where
  pub report : IsReport setup May turns r
  pub log : List (Action Name)
  pub legal : AreLegal log
  pub gone : (c : CpuId) → c.0 < setup.cpus
      → (line : CpuReport) × IsCpuReportOf r c line × HasGone setup (May c) turns c log line
  pub rest : (c : CpuId) → setup.cpus ≤ c.0 → own_events cpu_of_action c log ≡ []
  pub left : AreLeft setup log r
  pub awake : (b : BufId) (k : Buffer) → r.blocks (AtBuffer b) ≡ Some (OfBuffer k)
      → NoWakeUpIsLost k
