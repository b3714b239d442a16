-- A run of a plan in threads: what its workers leave, and the lines that report why each of them
-- stopped.
use Rattle.std.specs.{Prelude.{◌≡◌, ℕ, List, codes, length}, List.flat_map}
use Rattle.event_log.specs.{declared.ids.CpuId.CpuId, Streams.IsFirstInFirstOut}
use Rattle.tracer.specs.{Gather.on_buffer, TraceText.{text_line, numbered}}
use Rattle.{boot.specs.Plan.BootPlan, cpu.specs.Sound.setup_for}
use Rattle.cpu_workers.specs.declared.workers.{gates.Go.{Go, TheVariants.Pass}, stops.Stop.Stop}
use Rattle.cpu_workers.specs.declared.workers.stops.Stop.TheVariants.{AllEnded, TurnsUsed}
use Rattle.cpu_workers.specs.declared.workers.stops.Stop.TheVariants.{TraceFull, Held}
use Rattle.cpu_workers.specs.{Lawful.{IsLawfulReport, ReportView, left_in}, Logs.HasWords}
use Rattle.mctower.specs.{Running.AreCpus, StateLines.cpu_pieces, Tabled.IsTextOfRun}
use Rattle.mctower.specs.Texts.{IsTextOf}

-- the word for a stop
abbrev pub stop_word : Stop → List ℕ
stop_word AllEnded = codes "AllEnded"
stop_word TurnsUsed = codes "TurnsUsed"
stop_word TraceFull = codes "TraceFull"
stop_word Held = codes "Held"

-- the line of a CPU whose worker has stopped
abbrev pub stop_pieces : ℕ → Stop → List (List ℕ)
stop_pieces c stop = cpu_pieces c (stop_word stop)

-- a line for each CPU, by rising number
abbrev pub stop_text : List Stop → List ℕ
stop_text stops = flat_map text_line (numbered stop_pieces 0 stops)

-- the gate lets every CPU pass
abbrev pub AlwaysOpen : CpuId → Go → ℕ → Type 0
AlwaysOpen c go turn = go ≡ Pass

-- a run of the plan prints this text under some schedule of its CPUs
pub record IsPrintedByRun (plan : BootPlan) (text : List ℕ) : Type 0 where
  pub schedule : List CpuId
  pub known : AreCpus plan.cpus schedule
  pub is : IsTextOfRun plan schedule text

-- The workers of a plan have run, each for so many turns. They left a lawful report, that of one
-- words log, in the order of whose actions their calls are linearizable. These are its stops,
-- and this is the text of the plan's capacities, of the report's traces and of what its buffers
-- hold. In the text's order, for each buffer the values put are, in that order, the values taken,
-- followed by what is left. The calls of each buffer are in the order in which they took effect, by
-- the releases of that log. A run of the plan prints the same text.
pub record IsWorkedPlan (plan : BootPlan) (turns : ℕ) (stops : List Stop) (text : List ℕ) : Type
    0 where
  pub report : ReportView
  pub words : HasWords plan AlwaysOpen turns report
  pub stops_are : stops ≡ report.stops
  pub is : IsTextOf plan.caps report.traces (left_in (length plan.caps) report) text
  pub fifo : IsFirstInFirstOut is.order (left_in (length plan.caps) report)
  pub in_time : (b : ℕ) → on_buffer b is.order ≡ on_buffer b words.tells.report.report.order
  pub is_run : IsPrintedByRun plan text

-- what the workers of a plan print, a run of the plan prints under some schedule, however their
-- actions interleave
abbrev pub ThreadsPrintARun : Type 0
ThreadsPrintARun =
    (plan : BootPlan) (turns : ℕ) (report : ReportView) (text : List ℕ)
    → IsLawfulReport (setup_for plan) AlwaysOpen turns report
    → IsTextOf plan.caps report.traces (left_in (length plan.caps) report) text
    → IsPrintedByRun plan text
