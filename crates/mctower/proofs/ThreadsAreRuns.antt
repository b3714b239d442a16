-- What workers print is what the step table's system prints under some schedule, and a run has one
-- text.
use Rattle.std.proofs.Common.{◌≡◌, ℕ, List, length, Option, Some, refl, ap, sym, ◌∙◌}
use Rattle.{event_log.specs.declared.ids.LockId.TheVariants.Buffer as AtBuffer, boot.specs.Plan.BootPlan, cpu.specs.{Claims.buffer_at, Sound.setup_for}}
use Rattle.{cpu.specs.Table.{Blocks.{Block, OfPending}, Steps.{SystemState, block_at}}, cpu_workers.specs.Lawful.{IsLawfulReport, ReportView, held_at, left_in}}
use Rattle.{cpu_workers.{specs.{Lawful.messages_in, ReportRuns.IsReportOfRun}, proofs.Scheduled.is_run}, tracer.proofs.TakenLemmas.linearization}
use Rattle.mctower.specs.{Plans.table_run, Texts.IsTextOf, Tabled.{RunsHaveOneText, contents_at, items_held, traces_at}, Threads.{AlwaysOpen, IsPrintedByRun}}
use Rattle.mctower.{specs.Threads.ThreadsPrintARun, proofs.TabledLemmas.listed_alike}

-- a block's messages, by either name
held_alike : (o : Option Block) → items_held o ≡ messages_in o
held_alike (Some (OfPending threads)) = refl
held_alike other = refl

module _ (plan : BootPlan) (turns : ℕ) (r : ReportView) (lawful : IsLawfulReport (setup_for plan) AlwaysOpen turns r) where
  abbrev run : IsReportOfRun (setup_for plan) AlwaysOpen turns r
  run = is_run (setup_for plan) AlwaysOpen turns r lawful

  abbrev whole : SystemState
  whole = table_run plan run.schedule

  contents_are : left_in (length plan.caps) r ≡ contents_at (setup_for plan) whole
  contents_are =
      listed_alike (λ b. held_at r.blocks (buffer_at b)) (λ b. items_held (block_at (setup_for plan) (AtBuffer (buffer_at b)) whole.log)) (length plan.caps)
      (λ b within. ap messages_in (run.left.buffers (buffer_at b)) ∙ sym (held_alike (block_at (setup_for plan) (AtBuffer (buffer_at b)) whole.log)))

  pub printed_by_run : (text : List ℕ) → IsTextOf plan.caps r.traces (left_in (length plan.caps) r) text → IsPrintedByRun plan text
  printed_by_run text is = record {
    schedule = run.schedule;
    known = run.known;
    is = rw (← contents_are, ← run.traces) is;
  }

pub threads_print_a_run : ThreadsPrintARun
threads_print_a_run plan turns report text lawful is = printed_by_run plan turns report lawful text is

-- the text of the order that takes the first trace which is ready, of which there is one
pub runs_have_one_text : RunsHaveOneText
runs_have_one_text plan steps one other told also =
    let same = linearization (traces_at (table_run plan steps)) told.order also.order told.keeps.0 also.keeps.0 told.first also.first in
    let again = rw same at told.spelled in
    again.spelled ∙ sym also.spelled.spelled
