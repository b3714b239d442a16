-- The workers of a plan at one table: their actions under the layers' names, what each has done,
-- and the blocks that they leave.
use Rattle.std.specs.Prelude.{◌≡◌, ℕ, List, [], map, length, slice_get, Option, Some, IsSome, ◌<◌}
use Rattle.{boot.specs.Plan.BootPlan, event_log.specs.declared.entries.Entry.Entry}
use Rattle.event_log.specs.declared.ids.{BufId.BufId, CpuId.CpuId, LockId.LockId}
use Rattle.event_log.specs.{declared.ids.LockId.TheVariants.Pending, Actions.{Action, AreLegal}}
use Rattle.event_log.specs.{Actions.{acts_of, renamed}, Messages.Message}
use Rattle.layer_traits.specs.declared.queue_edits.{QueueBlock.QueueBlock, QueueEdit.QueueEdit}
use Rattle.layer_traits.specs.Blocks.{BufferEffects.opening_locks, QueueBlocks.StartsWell}
use Rattle.layer_traits.specs.{Blocks.QueueBlocks.{homes_in, inner}, Views.Renaming.renamed_edit}
use Rattle.layer_traits.specs.{Views.Renaming.viewed, Protocols.WordsProtocol.edit_of}
use Rattle.queuing_lock.specs.Nested.{lock_call, nested_lock_of}
use Rattle.{sleep_wakeup.specs.Nested.{slept_edit, state_of}, cpu.specs.Boots.homes_for}
use Rattle.cpu.specs.{Sound.setup_for, Table.Setups.boot_of, Tower.Views.TowerName}
use Rattle.table_machine.specs.SeatViews.{TableView, IsOver, site_of}
use Rattle.cpu_workers.specs.{declared.workers.{gates.Go.Go, stops.Stop.Stop}, Closing.Key}
use Rattle.cpu_workers.specs.{Closing.{LockBlock, LockEdit, blocks_read}, Lawful.held_at}
use Rattle.cpu_workers.specs.{Orders.{HasFollowed, IsTraceOf}, Reports.HasRun, Working.IsPlanned}
use Rattle.cpu_workers.specs.Working.{Working}

-- what a section of the tower's locks does, and what such a lock guards
abbrev pub Edit : Type 0
Edit = QueueEdit LockEdit

abbrev pub AnyBlock : Type 0
AnyBlock = QueueBlock LockBlock

-- the actions of the tower's locks, by the names of the layers' calls
abbrev pub tower_acts : List (Action Edit) → List (Action TowerName)
tower_acts acts =
    map (renamed (renamed_edit lock_call)) (map (renamed (renamed_edit slept_edit)) acts)

-- The locks of the tower open as a plan says. There is an empty queue for each CPU, with the home
-- of each thread. There is an empty buffer of each capacity under a free lock.
pub record OpensPlan (plan : BootPlan) (opening : LockId → Option AnyBlock) : Type 0 where
  pub starts : StartsWell opening
  pub homes : homes_in opening ≡ homes_for plan
  pub queues : (c : CpuId) → c.0 < plan.cpus → IsSome (opening (Pending c))
  pub locks : inner (viewed nested_lock_of (viewed state_of opening)) ≡ opening_locks plan.caps

-- a machine for one CPU's worker before its first turn: it acts for the CPU, no section of which is
-- under way. It has seen no section and no action, and its locks open as given.
pub record IsReadySeat (Acts Rests Unseen Idle Opens : Type 0) : Type 0 where
  pub acts : Acts
  pub rests : Rests
  pub unseen : Unseen
  pub idle : Idle
  pub opens : Opens

-- A tower's machine for the worker of one CPU of a plan, in which nothing was done. It is fresh,
-- has the plan's homes and capacities, and has seen no effect and no action. Each of its buffers
-- opens empty.
pub record IsUnused (Fresh Homes Caps Unseen Idle Opens : Type 0) : Type 0 where
  pub fresh : Fresh
  pub homes : Homes
  pub caps : Caps
  pub unseen : Unseen
  pub idle : Idle
  pub opens : Opens

-- the worker of a CPU of a plan before its first turn
pub record IsAtBoot (plan : BootPlan) (c : CpuId) (w : Working) : Type 0 where
  pub cpu_is : w.cpu ≡ c
  pub planned : IsPlanned (setup_for plan) w.plan
  pub boots : w.cpu_local ≡ boot_of (setup_for plan) c
  pub fresh : w.acts ≡ []

-- the worker's trace and what its machine has seen, apart from it, and what it keeps
pub record IsApart (w : Working) (acts : List (Action TowerName)) (machine_id : List ℕ)
    (trace : List Entry) : Type 0 where
  pub acts_are : acts ≡ w.acts
  pub site_is : machine_id ≡ w.machine_id
  pub trace_is : trace ≡ w.cpu_local.trace
  pub local : IsTraceOf w.cpu w.plan.caps w.acts w.cpu_local.trace
  pub legal : AreLegal w.acts
  pub follows : HasFollowed w

-- the worker of a CPU of a plan has run from before its first turn to its stop, and this is what it
-- left
pub record HasLeft (plan : BootPlan) (May : CpuId → Go → ℕ → Type 0) (turns : ℕ) (c : CpuId)
    (acts : List (Action TowerName)) (machine_id : List ℕ)
    (trace : List Entry) (taken : ℕ) (stop : Stop) : Type 0 where
  pub first : Working
  pub last : Working
  pub at_boot : IsAtBoot plan c first
  pub ran : HasRun May turns first last taken stop
  pub apart : IsApart last acts machine_id trace

-- the worker of a CPU left its key of this table, which is outside all locks, and the rest
pub record LeftKey (plan : BootPlan) (May : CpuId → Go → ℕ → Type 0) (turns : ℕ)
    (table_view : TableView AnyBlock) (c : CpuId) (key : Key)
    (trace : List Entry) (taken : ℕ) (stop : Stop) : Type 0 where
  pub cpu_is : key.cpu ≡ c
  pub over : IsOver table_view key
  pub left : HasLeft plan May turns c (tower_acts (acts_of edit_of key.history)) (site_of key.table)
      trace taken stop

-- the workers of all CPUs have left what these lists have, by CPU
pub record HaveLeft (plan : BootPlan) (May : CpuId → Go → ℕ → Type 0) (turns : ℕ)
    (table_view : TableView AnyBlock) (keys : List Key)
    (traces : List (List Entry))
    (taken : List ℕ) (stops : List Stop) : Type 0 where
  pub count : length keys ≡ plan.cpus
  pub traces_count : length traces ≡ plan.cpus
  pub taken_count : length taken ≡ plan.cpus
  pub stops_count : length stops ≡ plan.cpus
  pub each : (c : CpuId) → c.0 < plan.cpus
      → (key : Key) × (trace : List Entry) × (n : ℕ) × (stop : Stop)
      × (slice_get keys c.0 ≡ Some key) × (slice_get traces c.0 ≡ Some trace)
      × (slice_get taken c.0 ≡ Some n) × (slice_get stops c.0 ≡ Some stop)
      × LeftKey plan May turns table_view c key trace n stop

-- the items of a buffer according to these blocks, as a report gives them
abbrev pub items_of_block : List (LockId × AnyBlock) → BufId → List Message
items_of_block blocks b = held_at (blocks_read blocks) b
