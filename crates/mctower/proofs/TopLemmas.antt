-- What a process does with a plan, its contract says of the tower and of the step table both. Here
-- the tower is left out.
use Rattle.std.proofs.Common.{inl, inr, ℕ, ◌<◌, Bool, true, false, List, [], ◌∷◌, All, length, map, Option, Some, None, string_bytes, ap, ◌∙◌, refl}
use Rattle.std.specs.Prelude.{Result, Ok, Err}
use Rattle.{clap.specs.Walk.Text, event_log.specs.declared.ids.CpuId.CpuId, boot.specs.{Plan.BootPlan, declared.refusals.BootError.BootError}}
use Rattle.cpu.specs.{Claims.SystemView, Sound.{after_steps, setup_for}, Table.{Setups.SystemConfig, Steps.{IsReached, SystemState, boots, steps_once}}}
use Rattle.{cpu.specs.Table.Steps.{system_step, whole_at_boot}, cpu_workers.proofs.Joining.{all_head, all_tail}}
use Rattle.mctower.specs.{declared.{refusals.Refusal.Refusal, serve.outcomes.Done.Done}, Line.{Ghost, check, count, order_of, run, threads}, Output.Output}
use Rattle.mctower.specs.Serve.{EndsBy, OfBytes, OfInput, OfPlan, ReportsRun, RunsAsked, ServesBy, ServesPlan, WorksPlan, steps_asked}
use Rattle.mctower.specs.ByTable.{ProcessesRunTheTable, ReportsTable, RunByTable, RunsAreReached, ThreadsByTable}

reported : (plan : BootPlan) (steps : List CpuId) (s : SystemView) (answer : Result Done Refusal) (failed : Bool) → ReportsRun plan steps s answer failed
    → ReportsTable plan steps answer failed
reported plan steps s answer false (state, of_system, of_table, is) = (state, of_table, is)
reported plan steps s answer true is = is

run_by_table : (steps : List CpuId) (plan : BootPlan) (answer : Result Done Refusal) (out : Output) → ServesPlan steps plan answer out
    → RunByTable steps plan answer out
run_by_table steps plan answer out (inl unknown) = inl unknown
run_by_table steps plan answer out (inr runs) = inr (record {
  cpus = runs.cpus;
  trace = runs.trace;
  table = runs.table;
  reported = reported plan steps runs.system answer out.failed runs.put.0;
  told = runs.put.1;
})

threads_by_table : (turns : ℕ) (plan : BootPlan) (answer : Result Done Refusal) (out : Output) → WorksPlan turns plan answer out
    → ThreadsByTable turns plan answer out
threads_by_table turns plan answer out (inl lacks) = inl lacks
threads_by_table turns plan answer out (inr works) = inr (record {
  stops = works.stops;
  each = ap length works.worked.stops_are ∙ works.worked.words.tells.report.report.stops_count;
  trace = works.trace;
  table = works.worked.is_run;
  put = works.put;
})

-- What is meant for a plan passes through a plan's text, bytes and input.
module _ (Means Others : BootPlan → Result Done Refusal → Output → Type 0)
    (hand_on : (plan : BootPlan) (answer : Result Done Refusal) (out : Output) → Means plan answer out → Others plan answer out) where
  of_plan : (read : Result BootPlan BootError) (answer : Result Done Refusal) (out : Output) → OfPlan Means read answer out → OfPlan Others read answer out
  of_plan (Ok plan) answer out means = hand_on plan answer out means
  of_plan (Err error) answer out means = means

  of_bytes : (bytes : List ℕ) (answer : Result Done Refusal) (out : Output) → OfBytes Means bytes answer out → OfBytes Others bytes answer out
  of_bytes bytes answer out (inl lacks) = inl lacks
  of_bytes bytes answer out (inr (inl no_text)) = inr (inl no_text)
  of_bytes bytes answer out (inr (inr (is_text, means))) = inr (inr (is_text, of_plan _ answer out means))

  of_input : (input : Option (List ℕ)) (answer : Result Done Refusal) (out : Output) → OfInput Means input answer out → OfInput Others input answer out
  of_input input answer out (inl lacks) = inl lacks
  of_input input answer out (inr (inl fault)) = inr (inl fault)
  of_input input answer out (inr (inr (bytes, is_input, means))) = inr (inr (bytes, is_input, of_bytes bytes answer out means))

asked : (steps : Option (List CpuId)) (input : Option (List ℕ)) (answer : Result Done Refusal) (out : Output) → RunsAsked ServesPlan steps input answer out
    → RunsAsked RunByTable steps input answer out
asked (Some steps) input answer out runs = of_input (ServesPlan steps) (RunByTable steps) (run_by_table steps) input answer out runs
asked None input answer out runs = runs

served : (words : List Text) (order : Option Ghost) (input : Option (List ℕ)) (answer : Result Done Refusal) (out : Output)
    → ServesBy ServesPlan WorksPlan words order input answer out → ServesBy RunByTable ThreadsByTable words order input answer out
served words None input answer out serves = serves
served words (Some (count cpus times lock)) input answer out serves = serves
served words (Some check) input answer out serves = serves
served words (Some (run schedule)) input answer out serves = asked (steps_asked schedule) input answer out serves
served words (Some (threads turns)) input answer out serves =
    of_input (WorksPlan turns) (ThreadsByTable turns) (threads_by_table turns) input answer out serves

ends : (words : List Text) (order : Option Ghost) (input : Option (List ℕ)) (status : ℕ) (out err : Output)
    → EndsBy ServesPlan WorksPlan words order input status out err → EndsBy RunByTable ThreadsByTable words order input status out err
ends words order input status out err it = record {
  answer = it.answer;
  ends = it.ends;
  served = served words order input it.answer out it.served;
  told = it.told;
}

pub processes_run_the_table : ProcessesRunTheTable
processes_run_the_table (Ok words) input status out err it =
    ends (map string_bytes words.items) (order_of (map string_bytes words.items)) input status out err it
processes_run_the_table (Err refusal) input status out err it = it

-- steps of a setup's CPUs lead on to states that it reaches
reached_after : (setup : SystemConfig) (room : ℕ) (steps : List CpuId) (s : SystemState) → All (λ c. c.0 < setup.cpus) steps → IsReached setup room s
    → IsReached setup room (after_steps setup steps s)
reached_after setup room [] s known reached = reached
reached_after setup room (c ∷ steps) s known reached =
    reached_after setup room steps (system_step setup c s).next (all_tail (λ d. d.0 < setup.cpus) (c ∷ steps) steps c refl known)
    (steps_once c reached (all_head (λ d. d.0 < setup.cpus) (c ∷ steps) steps c refl known))

pub runs_are_reached : RunsAreReached
runs_are_reached plan steps known = reached_after (setup_for plan) (length steps) steps (whole_at_boot (setup_for plan) (length steps)) known boots
