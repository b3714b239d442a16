-- The result of a run in threads, by the results of its parts.
use Rattle.std.proofs.{Common.{◌≡◌, ◌⊎◌, inl, inr, ℕ, ◌<◌, false, true, List, [], length, Some, refl, ap, ◌∙◌}, lemmas.Option.slice_get_within}
use Rattle.std.specs.{Prelude.{Result, Ok, Err, Vec, slice_get, if◌then◌else◌}, Global.Global}
use Rattle.event_log.{specs.{declared.entries.Entry.Entry, Buffers.empty_buffers}, proofs.{Streams.taken_put, RunLemmas.op_order_from, BoolLemmas.refuted}}
use Rattle.{layer_traits.specs.Threads.OnePlace.cpu_at, boot.specs.{declared.refusals.BootError.BootError, Plan.{BootPlan, IsPlan}}, tracer.specs.Sinks.Outs}
use Rattle.{tracer.proofs.OrderLemmas.orders_agree, cpu.specs.Sound.setup_for, cpu_workers.specs.{declared.workers.stops.Stop.Stop, Lawful.IsLawfulReport}}
use Rattle.{cpu_workers.specs.{Lawful.{CpuReport, ReportView, ReportsTrue, left_in}, Logs.HasWords}, mctower.specs.declared.refusals.Refusal.Refusal}
use Rattle.mctower.specs.declared.{refusals.Refusal.TheVariants.WriteFault, run.run_faults.Fault.Fault, serve.outcomes.Done.{Done, TheVariants.Worked}}
use Rattle.mctower.specs.{Output.Output, Refusals.{from_fault, lacks_memory}, Serve.{OfPlan, RefusedBy, WorksPlan}, Texts.{HaveText, IsOut, IsTextOf, Writes}}
use Rattle.mctower.{specs.Threads.{IsWorkedPlan, AlwaysOpen}, proofs.{RunningLemmas.all_put, ThreadsAreRuns.printed_by_run}}
use Rattle.mctower.specs.declared.run.run_faults.Fault.TheVariants as run

-- what holds for a plan that was read
pub of_read : (Means : BootPlan → Result Done Refusal → Output → Type 0) (plan : BootPlan) (read : Result BootPlan BootError) (answer : Result Done Refusal)
    (out : Output) → read ≡ Ok plan → RefusedBy lacks_memory answer out ⊎ Means plan answer out → RefusedBy lacks_memory answer out
    ⊎ OfPlan Means read answer out
of_read Means plan read answer out is (inl refused) = inl refused
of_read Means plan read answer out is (inr means) = inr (rw is means)

-- the traces of a lawful report have a text with what is left
pub report_has : (plan : BootPlan) (turns : ℕ) (r : ReportView) → IsPlan plan → IsLawfulReport (setup_for plan) AlwaysOpen turns r
    → HaveText plan.caps r.traces (left_in (length plan.caps) r)
report_has plan turns r within lawful = record {
  plan = plan;
  within = within;
  caps_are = refl;
  count = lawful.report.traces_count;
  fit = λ c trace at. let line = report_at c trace at in rw line.1 at line.2.room;
  stay = λ c trace at. let line = report_at c trace at in rw line.1 at line.2.stays;
  order = lawful.report.order;
  keeps = lawful.report.keeps;
  runs = lawful.report.run;
}
  where
    -- what is reported of the CPU whose trace this is
    report_at : (c : ℕ) (trace : List Entry) → slice_get r.traces c ≡ Some trace
        → (line : CpuReport) × (line.trace ≡ trace) × ReportsTrue (setup_for plan) (AlwaysOpen (cpu_at c)) turns (cpu_at c) line
    report_at c trace at =
        let below : c < plan.cpus = rw lawful.report.traces_count at (slice_get_within r.traces c trace at) in
        let one = lawful.report.each (cpu_at c) below in
        let known = one.1.trace in
        (one.0, cc (known, at), one.2)

-- the plan's workers have run, and this is their text
has_worked : (turns : ℕ) (plan : BootPlan) (r : ReportView) (stops : Vec Stop Global) (text : List ℕ) → HasWords plan AlwaysOpen turns r
    → stops.items ≡ r.stops → IsTextOf plan.caps r.traces (left_in (length plan.caps) r) text → IsWorkedPlan plan turns stops.items text
has_worked turns plan r stops text words same is = record {
  report = r;
  words = words;
  stops_are = same;
  is = is;
  fifo = taken_put plan.caps is.order (left_in (length plan.caps) r) is.run;
  in_time = orders_agree r.traces is.order words.tells.report.report.order is.keeps (
    words.tells.report.report.keeps,
    op_order_from plan.caps [] (empty_buffers plan.caps) words.tells.report.report.order (left_in (length plan.caps) r)
        words.tells.report.report.run,
  );
  is_run = printed_by_run plan turns r words.tells.report text is;
}

-- the plan's workers have run, their text is written, and nothing after it
pub plan_worked : (turns : ℕ) (plan : BootPlan) (r : ReportView) (stops : Vec Stop Global) (answer : Result Done Refusal) (first whole : Output)
    → HasWords plan AlwaysOpen turns r → stops.items ≡ r.stops
    → (first.failed ≡ false) × IsOut plan.caps r.traces (left_in (length plan.caps) r) first
    → answer ≡ (if whole.failed then Err WriteFault else Ok (Worked stops)) → Outs whole.failed first.new whole.new [] → first.old ≡ whole.old
    → (whole.failed ≡ false → whole.flushed ≡ true) → WorksPlan turns plan answer whole
plan_worked turns plan r stops answer first whole words same writes given more old passed_on =
    let trace = writes.1.text in
    inr (record {
      stops = stops;
      trace = trace;
      worked = has_worked turns plan r stops trace words same writes.1.is;
      put = (given, (all_put first whole trace writes.0 writes.1.out more old, passed_on));
    })

-- their text could not be written
pub not_written : (A : Type 0) (turns : ℕ) (plan : BootPlan) (r : ReportView) (stops : Vec Stop Global) (fault : Fault) (refusal : Refusal) (out : Output)
    → HasWords plan AlwaysOpen turns r → stops.items ≡ r.stops
    → Writes {A = A} plan.caps r.traces (left_in (length plan.caps) r) (Err fault) out → refusal ≡ from_fault fault
    → RefusedBy lacks_memory (Err refusal) out ⊎ WorksPlan turns plan (Err refusal) out
not_written A turns plan r stops (run.NoMemory refused) refusal out words same writes is = inl (ap Err is, writes)
not_written A turns plan r stops run.WriteFault refusal out words same writes is = inr (inr (record {
  stops = stops;
  trace = writes.1.text;
  worked = has_worked turns plan r stops writes.1.text words same writes.1.is;
  put = (ap Err is ∙ (rw writes.0), (writes.1.out, λ live. refuted live writes.0));
}))
not_written A turns plan r stops other refusal out words same writes is = absurd writes
