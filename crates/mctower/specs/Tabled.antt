-- What a run reports, in terms of the step table's system only: a plan's trace text after a
-- schedule's steps, and its state lines.
use Rattle.std.specs.Prelude.{◌≡◌, ◌↔◌, ℕ, true, List, [], length, map, Option, Some, None}
use Rattle.std.specs.Prelude.{slice_get}
use Rattle.event_log.specs.declared.{entries.Entry.Entry, ids.CpuId.CpuId}
use Rattle.event_log.specs.{declared.ids.LockId.TheVariants.Buffer as AtBuffer, Actions.phase}
use Rattle.{event_log.specs.Messages.Message, boot.specs.Plan.BootPlan}
use Rattle.layer_traits.specs.declared.{calls.Place.Place, steps.Reason.Reason}
use Rattle.{layer_traits.specs.Polling.Plans.is_in_section, cpu.specs.Claims.{buffer_at, listed}}
use Rattle.cpu.specs.{Cpus.reason_in, Sound.setup_for, Table.Blocks.{Block, OfBuffer, OfPending}}
use Rattle.cpu.specs.Table.{Setups.{CpuLocal, SystemConfig}, Steps.{SystemState, block_at}}
use Rattle.cpu.specs.{Table.Steps.{cpu_numbered, halted_at}, Observed.IsPlaceByTable}
use Rattle.{cpu.specs.Wakeups.Quiet.IsQuietTable, mctower.specs.{Plans.table_run, State.places_in}}
use Rattle.mctower.specs.{Texts.IsTextOf, declared.tell.state_lines.State.State}

-- the traces of the table's CPUs
abbrev pub traces_at : SystemState → List (List Entry)
traces_at w = map (λ p. p.trace) w.cpus

-- the messages in a block, front first
abbrev pub items_held : Option Block → List Message
items_held None = []
items_held (Some (OfPending threads)) = []
items_held (Some (OfBuffer k)) = k.items

-- what the table's buffers hold
abbrev pub contents_at : SystemConfig → SystemState → List (List Message)
contents_at setup w =
    listed (λ b. items_held (block_at setup (AtBuffer (buffer_at b)) w.log)) 0 (length setup.caps)

-- why a CPU of the table takes no step: nothing stops one that has a section under way
abbrev pub reason_by : SystemConfig → CpuId → SystemState → Option CpuLocal → Option Reason
reason_by setup c w None = None
reason_by setup c w (Some p) = reason_in (is_in_section (phase c w.log)) (halted_at setup c p)

abbrev pub reason_at : SystemConfig → SystemState → ℕ → Option Reason
reason_at setup w k = reason_by setup (cpu_numbered k) w (slice_get w.cpus k)

-- this is the trace text of the plan's system in the step table after these steps
abbrev pub IsTextOfRun : BootPlan → List CpuId → List ℕ → Type 0
IsTextOfRun plan steps text =
    IsTextOf plan.caps (traces_at (table_run plan steps))
    (contents_at (setup_for plan) (table_run plan steps)) text

-- a run has one text
abbrev pub RunsHaveOneText : Type 0
RunsHaveOneText =
    (plan : BootPlan) (steps : List CpuId) (one other : List ℕ) → IsTextOfRun plan steps one
    → IsTextOfRun plan steps other → one ≡ other

-- after no step there is no entry in the text
abbrev pub NothingIsPrinted : Type 0
NothingIsPrinted =
    (plan : BootPlan) (text : List ℕ) (told : IsTextOfRun plan [] text) → told.order ≡ []

-- this is reported of that system: why each CPU is halted, where each thread is, and whether it is
-- quiet
pub record IsStateOfRun (plan : BootPlan) (steps : List CpuId) (state : State) : Type 0 where
  pub halted : state.halted.items
      ≡ listed (reason_at (setup_for plan) (table_run plan steps)) 0 plan.cpus
  pub many : length (places_in state) ≡ length plan.tasks
  pub places : (t : ℕ) (at : Place) → slice_get (places_in state) t ≡ Some at
      → IsPlaceByTable (setup_for plan) (table_run plan steps) (record { 0 = t }) at
  pub quiet : (state.is_quiet ≡ true) ↔ IsQuietTable (setup_for plan) (table_run plan steps)
