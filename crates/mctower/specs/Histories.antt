-- What a printed text states, in terms of buffers and programs only. It is a legal history of FIFO
-- buffers, in which each thread makes its program's calls. No definition here mentions the step
-- table.
use Rattle.std.specs.{Prelude.{◌≡◌, ℕ, List, Some, Result}, List.AllByRecursion}
use Rattle.event_log.specs.declared.{entries.Entry.Entry, ids.{CpuId.CpuId, Tid.Tid}}
use Rattle.event_log.specs.{Messages.Message, Runs.IsLegalHistory, Streams.IsFirstInFirstOut}
use Rattle.{guest.specs.Calls.AreProgramsCalls, layer_traits.specs.Threads.Places.home_of}
use Rattle.{boot.specs.Plan.{BootPlan, plan_program_of}, cpu.specs.Boots.homes_for}
use Rattle.{cpu.specs.Cpus.of_thread, tracer.specs.TraceText.IsTraceText}
use Rattle.mctower.specs.declared.{refusals.Refusal.Refusal, serve.outcomes.Done.Done}
use Rattle.mctower.specs.{Output.Output, Serve.RunsTrace, Threads.IsWorkedPlan}
use Rattle.cpu_workers.specs.declared.workers.stops.Stop.{Stop}

-- The text spells one order of entries and what is left in each buffer. The order is a legal
-- history of FIFO buffers with the plan's capacities, which begin empty, and it ends in what is
-- left. For each buffer the values put are, in that order, the values taken, followed by what is
-- left. Each entry is of a thread of the plan, on its home CPU. Each thread's entries are, in their
-- order, calls of its program, which continues according to what it received.
pub record IsHistoryText (plan : BootPlan) (text : List ℕ) : Type 0 where
  pub order : List Entry
  pub left : List (List Message)
  pub run : IsLegalHistory plan.caps order left
  pub fifo : IsFirstInFirstOut order left
  pub home : AllByRecursion (λ e. home_of (homes_for plan) e.thread ≡ Some e.cpu) order
  pub programs : (t : Tid) (c : CpuId) → home_of (homes_for plan) t ≡ Some c
      → AreProgramsCalls (plan_program_of plan t.0) (of_thread t.0 order)
  pub spelled : IsTraceText text plan.caps order left

-- the theorem: each text that `run` prints is such a history, and so is each that `threads` prints
pub record TextsAreHistories : Type 0 where
  pub of_run : (plan : BootPlan) (steps : List CpuId) (answer : Result Done Refusal)
      (printed : Output) → (runs : RunsTrace plan steps answer printed)
      → IsHistoryText plan runs.trace
  pub of_threads : (plan : BootPlan) (turns : ℕ) (stops : List Stop) (text : List ℕ)
      → IsWorkedPlan plan turns stops text → IsHistoryText plan text
