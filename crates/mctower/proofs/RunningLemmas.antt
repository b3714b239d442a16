-- The result of a run of a plan, by the results of its parts.
use Rattle.std.proofs.{Common.{◌≡◌, ℕ, true, false, List, [], length, map, replicate, sym, ap, ◌∙◌}, lemmas.{Bool.false≢true, List.{append-nil, length-map}}}
use Rattle.std.specs.Prelude.{Result, Ok, Err, IsErrAnd}
use Rattle.{event_log.{specs.{declared.ids.CpuId.CpuId, Buffers.empty_buffers}, proofs.{Streams.taken_put, RunLemmas.op_order_from}}, boot.specs.Plan.BootPlan}
use Rattle.cpu.specs.{Boots.{guests_for, homes_for, tables_for}, Cpus.programs_of, Claims.{CpuView, MatchesPrograms, HasLinearization, SystemView}}
use Rattle.cpu.specs.{Claims.{HasUniquePlace, KeepsAffinity, traces_of}, Sound.{BootsByTable, IsSetupFor, RanByTable, SoundByTable, setup_for}, Systems.Ran}
use Rattle.cpu.{specs.{Systems.{SamePlan, whole_of}, Observed.ObservedByTable}, proofs.ListFacts.ListReads.{listed_length, map_twice}}
use Rattle.{cpu.proofs.{StepTable.ReachedSystems.setup_on, WholeSystems.RealTime.linear_ran}, mctower.specs.Output.{IsPut, IsUntouched, Output}}
use Rattle.mctower.specs.{Plans.{IsOpened, IsSystemOf, table_run}, Running.{AreCpus, IsRunOf, IsPrinted, RunsPlan}, Texts.{IsOut, Writes}}
use Rattle.mctower.{specs.declared.run.run_faults.Fault.{Fault, TheVariants.{NoMemory, BadCpu, WriteFault}}, proofs.TabledLemmas.text_of_run}
use Rattle.tracer.{specs.Sinks.Outs, proofs.{OrderLemmas.orders_agree, SinkLemmas.{all_out, outs_then}}}

-- a system that opens with a plan's buffers, homes, guests and room for entries is the plan's, and
-- took no step
pub plan_opened : (plan : BootPlan) (room : ℕ) (s : SystemView) → s.caps ≡ plan.caps → s.homes ≡ homes_for plan → map (λ p. p.guests) s.cpus ≡ tables_for plan
    → map (λ p. p.limit) s.cpus ≡ replicate plan.cpus plan.trace → s.room ≡ room → s.taken ≡ 0 → IsOpened plan room s
plan_opened plan room s caps homes guests limits room_is taken =
    let programs = sym (map_twice (λ (p : CpuView). p.guests) programs_of s.cpus) ∙ ap (map programs_of) guests in
    let count = sym (length-map s.cpus (λ (p : CpuView). p.guests)) ∙ ap length guests ∙ listed_length (guests_for plan) plan.cpus 0 in
    assumption (programs, count)

-- steps leave a plan's system the plan's
pub stays_of : (plan : BootPlan) (first last : SystemView) → IsSystemOf plan first → SamePlan first last → IsSystemOf plan last
stays_of plan first last of same =
    assumption (same.caps ∙ of.caps, same.homes ∙ of.homes, same.programs ∙ of.programs, same.count ∙ of.cpus, same.limits ∙ of.limits)

-- a schedule that the step table runs from a plan's system at boot
by_table : (plan : BootPlan) (steps : List CpuId) (first last : SystemView) → IsOpened plan (length steps) first → BootsByTable first
    → IsSetupFor (setup_for plan) first → RanByTable first steps last → whole_of last ≡ table_run plan steps
by_table plan steps first last of boots planned table = rw (table (setup_for plan) planned.goes, boots (setup_for plan) planned, of.room_is)

-- a plan's system that took a schedule's steps
pub run_of : (IsStepwise : Type 0) (plan : BootPlan) (steps : List CpuId) (first last : SystemView) → IsOpened plan (length steps) first
    → Ran IsStepwise first steps last → (IsStepwise → BootsByTable first) → IsSetupFor (setup_for plan) first
    → (IsStepwise → RanByTable first steps last) → (IsStepwise → SoundByTable last) → (IsStepwise → ObservedByTable last)
    → SamePlan first last → HasLinearization last → MatchesPrograms last → KeepsAffinity last → HasUniquePlace last → IsRunOf IsStepwise plan steps last
run_of IsStepwise plan steps first last of ran boots planned table sound told same one follow stay once = record {
  start = first;
  opened = of;
  ran = ran;
  linear = linear_ran ran;
  planned = setup_on (setup_for plan) same planned;
  table = λ step. by_table plan steps first last of (boots step) planned (table step);
  sound = sound;
  told = told;
  system = stays_of plan first last of.system same;
  room = same.room ∙ of.room_is;
  linearization = one;
  follow = follow;
  stay = stay;
  once = once;
}

-- a text that was written, and nothing after it
pub all_put : (first whole : Output) (text : List ℕ) → first.failed ≡ false → IsPut first text → Outs whole.failed first.new whole.new []
    → first.old ≡ whole.old → IsPut whole text
all_put first whole text live out more same =
    rw (same, append-nil) at
    (outs_then whole.failed first.old first.new whole.new text [] (all_out first.failed first.old first.new text live out) more)

-- a fault that is passed on
err_runs : (IsStepwise : Type 0) (plan : BootPlan) (steps : List CpuId) (r : Result SystemView Fault) (e : Fault) (out : Output) → IsErrAnd r (λ f. f ≡ e)
    → RunsPlan IsStepwise plan steps (Err e) out → RunsPlan IsStepwise plan steps r out
err_runs IsStepwise plan steps (Ok s) e out is runs = absurd is
err_runs IsStepwise plan steps (Err f) e out is runs = rw is runs

-- the schedule names a CPU that the plan has not
pub bad_cpu : (IsStepwise : Type 0) (plan : BootPlan) (steps : List CpuId) (first : SystemView) (r : Result SystemView Fault) (out : Output)
    → IsSystemOf plan first
    → (AreCpus (length first.cpus) steps → false ≡ true) → IsUntouched out → IsErrAnd r (λ f. f ≡ BadCpu) → RunsPlan IsStepwise plan steps r out
bad_cpu IsStepwise plan steps first r out of unknown untouched is =
    err_runs IsStepwise plan steps r BadCpu out is ((λ known. false≢true (unknown (rw of.cpus known))), untouched)

module _ (IsStepwise : Type 0) (plan : BootPlan) (steps : List CpuId) (caps : List ℕ) (first last : SystemView) (same : caps ≡ plan.caps)
    (of : IsSystemOf plan first) (known : AreCpus (length first.cpus) steps) (ran : IsRunOf IsStepwise plan steps last) where
  -- what is out is of the run's system
  out_ran : (out : Output) → IsOut caps (traces_of last) last.contents out → IsPrinted IsStepwise plan steps last out
  out_ran out text =
      let written : IsOut plan.caps (traces_of last) last.contents out = rw same at text in
      record {
        cpus = rw (← of.cpus) known;
        ran = ran;
        out = written;
        fifo = taken_put plan.caps written.is.order last.contents written.is.run;
        in_time = orders_agree (traces_of last) written.is.order last.order written.is.keeps
            (ran.linearization.keeps, op_order_from last.caps [] (empty_buffers last.caps) last.order last.contents ran.linearization.run);
        table = λ step. text_of_run IsStepwise plan steps last ran step written.text written.is;
      }

  write_fault : (A : Type 0) (e : Fault) (out : Output) → Writes {A = A} caps (traces_of last) last.contents (Err e) out
      → RunsPlan IsStepwise plan steps (Err e) out
  write_fault A (NoMemory refused) out writes = writes
  write_fault A WriteFault out writes = (writes.0, (last, out_ran out writes.1))
  write_fault A other out writes = absurd writes

  -- the text could not be written
  pub not_written : (A : Type 0) (r : Result SystemView Fault) (e : Fault) (out : Output) → Writes {A = A} caps (traces_of last) last.contents (Err e) out
      → IsErrAnd r (λ f. f ≡ e) → RunsPlan IsStepwise plan steps r out
  not_written A r e out writes is = err_runs IsStepwise plan steps r e out is (write_fault A e out writes)

  -- the text was written
  pub text_written : (out : Output) → (out.failed ≡ false) × IsOut caps (traces_of last) last.contents out → RunsPlan IsStepwise plan steps (Ok last) out
  text_written out writes = (writes.0, out_ran out writes.1)
