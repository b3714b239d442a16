-- Simulation: what threads do, some schedule does. A report of workers is that of a run of the step
-- table's system.
use Rattle.std.specs.{Prelude.{◌≡◌, ℕ, ◌<◌, false, List, length, map, Some, slice_get}, List.All}
use Rattle.event_log.specs.{declared.ids.CpuId.CpuId, Actions.phase}
use Rattle.{layer_traits.specs.Polling.Plans.is_in_section, cpu.specs.Sound.after_steps}
use Rattle.cpu.specs.Table.{Setups.{CpuLocal, SystemConfig}, Steps.{IsReached, SystemState}}
use Rattle.cpu.specs.Table.Steps.{halted_at, whole_at_boot}
use Rattle.cpu_workers.specs.{declared.workers.gates.Go.{Go, TheVariants.Limit}, Lawful.AreLeft}
use Rattle.cpu_workers.specs.Lawful.{CpuReport, IsCpuReportOf, IsLawfulReport, ReportView}
use Rattle.cpu_workers.specs.Reports.{IsTrueStop}

-- the step table's system after these steps from boot, one after the other, with room for exactly
-- these
abbrev pub run_by : SystemConfig → List CpuId → SystemState
run_by setup schedule = after_steps setup schedule (whole_at_boot setup (length schedule))

-- CPU c is in this system as its row reports: it has the row's trace, is outside its sections, and
-- the row's stop is true
pub record StandsAsTold (setup : SystemConfig) (May : Go → ℕ → Type 0) (turns : ℕ)
    (run : SystemState)
    (c : CpuId) (line : CpuReport) : Type 0 where
  pub cpu_local : CpuLocal
  pub at : slice_get run.cpus c.0 ≡ Some cpu_local
  pub trace : line.trace ≡ cpu_local.trace
  pub rests : is_in_section (phase c run.log) ≡ false
  pub stop : IsTrueStop (halted_at setup c cpu_local) (May Limit) turns line.taken line.stop

-- A report of a run. Under some schedule of the setup's CPUs, each of whose steps is taken, the
-- step table's system has the report's traces. Its CPUs are in the states that the report gives,
-- and the report's blocks are what the run leaves.
pub record IsReportOfRun (setup : SystemConfig) (May : CpuId → Go → ℕ → Type 0) (turns : ℕ)
    (r : ReportView) : Type 0 where
  pub schedule : List CpuId
  pub known : All (λ c. c.0 < setup.cpus) schedule
  pub taken : (run_by setup schedule).taken ≡ length schedule
  pub reached : IsReached setup (length schedule) (run_by setup schedule)
  pub traces : r.traces ≡ map (λ p. p.trace) (run_by setup schedule).cpus
  pub stands : (c : CpuId) → c.0 < setup.cpus
      → (line : CpuReport) × IsCpuReportOf r c line
      × StandsAsTold setup (May c) turns (run_by setup schedule) c line
  pub left : AreLeft setup (run_by setup schedule).log r

-- each lawful report is one of a run, whatever this gate may return
abbrev pub ReportsAreRuns : (CpuId → Go → ℕ → Type 0) → Type 0
ReportsAreRuns May =
    (setup : SystemConfig) (turns : ℕ) (r : ReportView) → IsLawfulReport setup May turns r
    → IsReportOfRun setup May turns r
