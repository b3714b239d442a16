use Rattle.std.{proofs.Common.{◌≡◌, Bool, List, [], Result, Ok, Err, true, false, refl, ap, inl, inr, ◌⊎◌}, specs.Prelude.if◌then◌else◌}
use Rattle.{event_log.{specs.declared.ids.CpuId.CpuId, proofs.BoolLemmas.refuted}, boot.specs.{declared.refusals.BootError.BootError, Plan.{BootPlan, plan_of}}}
use Rattle.{tracer.specs.Sinks.Outs, mctower.specs.declared.{refusals.Refusal.{Refusal, TheVariants.{WriteFault, Plan as BadPlan}}, serve.outcomes.Done.Done}}
use Rattle.mctower.specs.{declared.{serve.outcomes.Done.TheVariants.Ran, tell.state_lines.State.State, run.run_faults.Fault.Fault}, State.IsStateOf}
use Rattle.mctower.specs.{Running.{IsPrinted, IsRunOf, NoCondition, RunsTextOn, Tells}, Output.{Output, between}, Serve.{OfPlan, PutsRun, RefusedBy}}
use Rattle.mctower.{specs.{Serve.{ReportsRun, RunsTrace, ServesPlan}, Refusals.{from_fault, lacks_memory}}, proofs.RunningLemmas.all_put}
use Rattle.{mctower.proofs.TabledLemmas.state_of_run, cpu.specs.Claims.SystemView}
use Rattle.mctower.specs.declared.run.run_faults.Fault.TheVariants as run
use Rattle.mctower.proofs.serve.run_bytes.Goals as goal

-- what is reported of a run whose text was written, and nothing after it
told : (plan : BootPlan) (steps : List CpuId) (s : SystemView) (state : State) (answer : Result Done Refusal) (failed : Bool) → IsRunOf NoCondition plan steps s
    → IsStateOf NoCondition s state → answer ≡ (if failed then Err WriteFault else Ok (Ran state)) → ReportsRun plan steps s answer failed
told plan steps s state answer false ran is given = (state, is, state_of_run NoCondition plan steps s ran tt state is, given)
told plan steps s state answer true ran is given = given

-- the trace of a run whose text was written, if this is all that was written
traced : (steps : List CpuId) (plan : BootPlan) (s : SystemView) (answer : Result Done Refusal) (first whole : Output)
    (is : IsPrinted NoCondition plan steps s first) → PutsRun plan steps s is.out.text answer whole → RunsTrace plan steps answer whole
traced steps plan s answer first whole is put = record {
  cpus = is.cpus;
  system = s;
  ran = is.ran;
  trace = is.out.text;
  traced = is.out.is;
  fifo = is.fifo;
  in_time = is.in_time;
  table = is.table tt;
  put = put;
}

-- the text of a run is written, and then nothing more
ran_out : (steps : List CpuId) (ran : Result SystemView Fault) (state : State) (read : Result BootPlan BootError) (answer : Result Done Refusal)
    (first whole : Output) → RunsTextOn NoCondition read steps ran first → Tells ran (Ok state)
    → answer ≡ (if whole.failed then Err WriteFault else Ok (Ran state)) → Outs whole.failed first.new whole.new [] → first.old ≡ whole.old
    → (whole.failed ≡ false → whole.flushed ≡ true) → OfPlan (ServesPlan steps) read answer whole
ran_out steps (Ok s) state (Ok plan) answer first whole runs is given more same passed_on =
    inr (traced steps plan s answer first whole runs.1 (
      told plan steps s state answer whole.failed runs.1.ran is given,
      (all_put first whole runs.1.out.text runs.0 runs.1.out.out more same, passed_on),
    ))
ran_out steps (Ok s) state (Err error) answer first whole runs is given more same passed_on = absurd runs
ran_out steps (Err fault) state read answer first whole runs is given more same passed_on = absurd is

-- a run that had a fault
fault_ran : (steps : List CpuId) (read : Result BootPlan BootError) (fault : Fault) (out : Output) → RunsTextOn NoCondition read steps (Err fault) out
    → RefusedBy lacks_memory (Err (from_fault fault)) out ⊎ OfPlan (ServesPlan steps) read (Err (from_fault fault)) out
fault_ran steps (Ok plan) (run.NoMemory refused) out runs = inl (refl, runs)
fault_ran steps (Ok plan) run.BadCpu out runs = inr (inl (runs.0, (refl, runs.1)))
fault_ran steps (Ok plan) run.WriteFault out runs =
    inr (inr (traced steps plan runs.1.0 (Err WriteFault) out out runs.1.1 ((rw runs.0 refl), (runs.1.1.out.out, λ live. refuted live runs.0))))
fault_ran steps (Err e) (run.NoMemory refused) out runs = inl (refl, runs)
fault_ran steps (Err e) (run.Boot f) out runs = inr (ap (λ x. Err (BadPlan x)) runs.0, runs.1)
fault_ran steps read other out runs = absurd runs

-- and one of which a fault is reported
fault_told : (steps : List CpuId) (ran : Result SystemView Fault) (read : Result BootPlan BootError) (fault : Fault) (out : Output)
    → RunsTextOn NoCondition read steps ran out → Tells ran (Err fault)
    → RefusedBy lacks_memory (Err (from_fault fault)) out ⊎ OfPlan (ServesPlan steps) read (Err (from_fault fault)) out
fault_told steps (Ok s) read fault out runs is = absurd is
fault_told steps (Err f) read fault out runs is = rw is (fault_ran steps read f out runs)

pub returns-in-Err-clause-runs : goal.returns-in-Err-clause-runs
returns-in-Err-clause-runs g c =
    let ran = fault_told c.args.steps.now _ (plan_of c.in-Ok.plan.now) c.in-Err.fault _ c.in-Err.ensures.runs c.in-Err.ensures.tells in
    rw c.run_refused.ensures (elim ran [
      | inl refused ↦ inl refused
      | inr runs ↦ inr (inr (c.in-Ok.ensures.cases.1, rw c.in-Ok.ensures.cases.0 at runs))
    ])

pub returns-in-Ok-run_plan-clause-runs : goal.returns-in-Ok-run_plan-clause-runs
returns-in-Ok-run_plan-clause-runs g c =
    inr (inr (
      c.in-Ok.ensures.cases.1,
      rw c.in-Ok.ensures.cases.0 at (ran_out c.args.steps.now _ c.in-Ok-run_plan.state (plan_of c.in-Ok.plan.now) c.write_output.result
          (between g.O.Write.contents c.args.out.now c.run_plan.new.out) (between g.O.Write.contents c.args.out.now c.write_output.new.out)
          c.in-Ok-run_plan.ensures.runs c.in-Ok-run_plan.ensures.tells c.write_output.ensures.put.0 c.write_output.ensures.put.1.0 refl
          c.write_output.ensures.put.1.1),
    ))
