-- The top theorem: what a process of the program does, in terms of the step table only. No
-- definition here mentions the tower, its locks or its logs.
use Rattle.std.specs.Prelude.{◌≡◌, ◌⊎◌, ℕ, Bool, true, false, List, length, Option, Result, Ok, Err}
use Rattle.std.specs.{Prelude.{String, Vec}, Global.Global}
use Rattle.{event_log.specs.declared.ids.CpuId.CpuId, boot.specs.Plan.BootPlan}
use Rattle.cpu.specs.{Sound.setup_for, Table.Steps.IsReached}
use Rattle.cpu_workers.specs.declared.workers.stops.Stop.{Stop}
use Rattle.mctower.specs.declared.refusals.Refusal.{Refusal, TheVariants.{BadCpu, WriteFault}}
use Rattle.mctower.specs.declared.serve.outcomes.Done.{Done, TheVariants.{Ran, Worked}}
use Rattle.mctower.specs.{declared.tell.state_lines.State.State, Output.{IsTold, Output}}
use Rattle.mctower.specs.{Plans.table_run, Running.AreCpus, Tabled.{IsStateOfRun, IsTextOfRun}}
use Rattle.mctower.specs.Serve.{EndsProcess, EndsProcessBy, Puts, RefusedBy}
use Rattle.mctower.specs.{Refusals.lacks_thread, Threads.IsPrintedByRun}

-- the report is the state of the step table's system after these steps; or the output failed
abbrev pub ReportsTable : BootPlan → List CpuId → Result Done Refusal → Bool → Type 0
ReportsTable plan steps answer false =
    (state : State) × IsStateOfRun plan steps state × (answer ≡ Ok (Ran state))
ReportsTable plan steps answer true = answer ≡ Err WriteFault

-- The steps are of the plan's CPUs. The trace text of the step table's system after these steps is
-- written and flushed, and its state is the report. If the output failed, a prefix is written.
pub record RunsTable (plan : BootPlan) (steps : List CpuId) (answer : Result Done Refusal)
    (printed : Output) : Type 0 where
  pub cpus : AreCpus plan.cpus steps
  pub trace : List ℕ
  pub table : IsTextOfRun plan steps trace
  pub reported : ReportsTable plan steps answer printed.failed
  pub told : IsTold printed trace

-- a run of a plan is one of the step table, or a step is of no CPU of the plan
abbrev pub RunByTable : List CpuId → BootPlan → Result Done Refusal → Output → Type 0
RunByTable steps plan answer out =
    ((¬ AreCpus plan.cpus steps) × RefusedBy BadCpu answer out) ⊎ RunsTable plan steps answer out

-- The trace text that a run of the plan prints under some schedule is written and flushed. The
-- report is why each CPU's worker stopped. If the output failed, a prefix is written.
pub record WorksTable (plan : BootPlan) (answer : Result Done Refusal) (printed : Output) : Type
    0 where
  pub stops : Vec Stop Global
  pub each : length stops.items ≡ plan.cpus
  pub trace : List ℕ
  pub table : IsPrintedByRun plan trace
  pub put : Puts (Worked stops) trace answer printed

-- workers of a plan do what a run does under some schedule, or a thread could not be started
abbrev pub ThreadsByTable : ℕ → BootPlan → Result Done Refusal → Output → Type 0
ThreadsByTable turns plan answer out =
    RefusedBy lacks_thread answer out ⊎ WorksTable plan answer out

-- The process ends: its words are served. What it does with a plan is the step table's run.
abbrev pub EndsByTable : {A B : Type 0} → Result (Vec (String A) B) Refusal → Option (List ℕ) → ℕ
    → Output → Output → Type 0
EndsByTable words input status out err =
    EndsProcessBy RunByTable ThreadsByTable words input status out err

-- the theorem: a process that ends as its contract says ends so
abbrev pub ProcessesRunTheTable : Type 0
ProcessesRunTheTable =
    (words : Result (Vec (String Global) Global) Refusal) (input : Option (List ℕ)) (status : ℕ)
    (out err : Output)
    → EndsProcess words input status out err → EndsByTable words input status out err

-- each run of the table is a state that the table reaches, so the table's laws hold of it
abbrev pub RunsAreReached : Type 0
RunsAreReached =
    (plan : BootPlan) (steps : List CpuId) → AreCpus plan.cpus steps
    → IsReached (setup_for plan) (length steps) (table_run plan steps)
