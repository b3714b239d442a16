-- The trace text of the traces of a plan's CPUs and of what its buffers hold, and the result of
-- writing it.
use Rattle.std.specs.Prelude.{◌≡◌, ◌≤◌, ℕ, true, false, List, length, Some, slice_get, Result, Ok}
use Rattle.std.specs.{Prelude.Err, List.AllByRecursion}
use Rattle.event_log.specs.{declared.entries.Entry.Entry, Messages.Message, Runs.IsLegalHistory}
use Rattle.{event_log.specs.Traces.IsInterleaving, tracer.specs.Gather.{IsOrder, TakesFirstReady}}
use Rattle.{tracer.specs.TraceText.IsTraceText, boot.specs.Plan.{BootPlan, IsPlan}}
use Rattle.cpu.specs.{Boots.homes_for, Cpus.IsOfHome}
use Rattle.mctower.specs.declared.run.run_faults.Fault.{Fault, TheVariants.{NoMemory, Boot, BadCpu}}
use Rattle.mctower.specs.declared.run.run_faults.Fault.TheVariants.{NoOrder, WriteFault}
use Rattle.mctower.specs.Output.{IsPut, IsUntouched, Output}

-- These traces have a text with what is left. They are one of each CPU of a plan with these
-- capacities, each within its room and of its CPU's home threads. They have an order that keeps
-- each of them, is a legal history and ends in what is left.
pub record HaveText (caps : List ℕ) (traces : List (List Entry)) (left : List (List Message)) : Type
    0 where
  pub plan : BootPlan
  pub within : IsPlan plan
  pub caps_are : caps ≡ plan.caps
  pub count : length traces ≡ plan.cpus
  pub fit : (c : ℕ) (trace : List Entry) → slice_get traces c ≡ Some trace
      → length trace ≤ plan.trace
  pub stay : (c : ℕ) (trace : List Entry) → slice_get traces c ≡ Some trace
      → AllByRecursion (IsOfHome (homes_for plan) (record { 0 = c })) trace
  pub order : List Entry
  pub keeps : IsInterleaving traces order
  pub runs : IsLegalHistory caps order left

-- The text is the trace text of these capacities, of these traces in one order, and of what is
-- left. The order always takes the first trace that is ready. It is a legal history that ends in
-- what is left.
pub record IsTextOf (caps : List ℕ) (traces : List (List Entry)) (left : List (List Message))
    (text : List ℕ) : Type 0 where
  pub order : List Entry
  pub keeps : IsOrder traces order
  pub first : TakesFirstReady traces order
  pub run : IsLegalHistory caps order left
  pub spelled : IsTraceText text caps order left

-- this text is written, or a prefix of it if the sink failed
pub record IsOut (caps : List ℕ) (traces : List (List Entry)) (left : List (List Message))
    (printed : Output) : Type 0 where
  pub text : List ℕ
  pub is : IsTextOf caps traces left text
  pub out : IsPut printed text

-- the result of writing this text, by what became of the sink
abbrev pub Writes : {A : Type 0} → List ℕ → List (List Entry) → List (List Message) → Result A Fault
    → Output → Type 0
Writes caps traces left (Ok _) out = (out.failed ≡ false) × IsOut caps traces left out
Writes caps traces left (Err (NoMemory refused)) out = IsUntouched out
Writes caps traces left (Err (Boot e)) out = ⊥
Writes caps traces left (Err BadCpu) out = ⊥
Writes caps traces left (Err NoOrder) out = ⊥
Writes caps traces left (Err WriteFault) out = (out.failed ≡ true) × IsOut caps traces left out
