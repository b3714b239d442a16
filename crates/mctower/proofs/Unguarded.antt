-- What holds under a condition holds under any that implies it. Therefore what holds of layers
-- whose polls are single actions holds without a condition if they are such layers.
use Rattle.std.{proofs.Common.{◌≡◌, List, refl}, specs.Prelude.{Result, Ok, Err, IsErrAnd}}
use Rattle.{event_log.specs.declared.{ids.CpuId.CpuId, refusals.NoMemory.NoMemory as NoMemoryTold}, boot.specs.declared.refusals.BootError.BootError}
use Rattle.{boot.specs.Plan.{BootPlan, Fails}, cpu.specs.{Claims.SystemView, Systems.{Ran, WentOn, goes, took_none, stayed, took}}}
use Rattle.mctower.specs.{declared.{run.run_faults.Fault.{Fault, TheVariants.{NoMemory, WriteFault}}, tell.state_lines.State.State}, Output.IsUntouched}
use Rattle.mctower.specs.{Output.Output, Plans.from_boot, Running.{IsPrinted, IsRunOf, NoCondition, RunsOverTower, RunsPlan, RunsTextOn}, State.IsStateOf}
use Rattle.boot.specs.declared.refusals.BootError.TheVariants as refused

module _ (If Where : Type 0) (follows : Where → If) where
  went : (c : CpuId) (s r : SystemView) → WentOn If c s r → WentOn Where c s r
  went c s r (took live counted grows now step) = took live counted grows now (λ here. step (follows here))
  went c s r (stayed reason is same) = stayed reason is same

  ran : (start : SystemView) (steps : List CpuId) (s : SystemView) → Ran If start steps s → Ran Where start steps s
  ran start _ _ took_none = took_none
  ran start _ _ (goes {steps = steps} {s = s} c r before step) = goes c r (ran start steps s before) (went c s r step)

  run_of : (plan : BootPlan) (steps : List CpuId) (s : SystemView) → IsRunOf If plan steps s → IsRunOf Where plan steps s
  run_of plan steps s is = record {
    start = is.start;
    opened = is.opened;
    ran = ran is.start steps s is.ran;
    linear = is.linear;
    planned = is.planned;
    table = λ here. is.table (follows here);
    sound = λ here. is.sound (follows here);
    told = λ here. is.told (follows here);
    system = is.system;
    room = is.room;
    linearization = is.linearization;
    follow = is.follow;
    stay = is.stay;
    once = is.once;
  }

  printed : (plan : BootPlan) (steps : List CpuId) (s : SystemView) (out : Output) → IsPrinted If plan steps s out → IsPrinted Where plan steps s out
  printed plan steps s out is =
      record { cpus = is.cpus; ran = run_of plan steps s is.ran; out = is.out; fifo = is.fifo; in_time = is.in_time; table = λ here. is.table (follows here) }

  runs_plan : (plan : BootPlan) (steps : List CpuId) (result : Result SystemView Fault) (out : Output) → RunsPlan If plan steps result out
      → RunsPlan Where plan steps result out
  runs_plan plan steps (Ok s) out runs = (runs.0, printed plan steps s out runs.1)
  runs_plan plan steps (Err WriteFault) out runs = (runs.0, (runs.1.0, printed plan steps runs.1.0 out runs.1.1))
  runs_plan plan steps (Err other) out runs = runs

  pub state_of : (s : SystemView) (state : State) → IsStateOf If s state → IsStateOf Where s state
  state_of s state is = assumption (λ (here : Where). is.table (follows here), λ (here : Where). is.still (follows here))

pub runs_alike : (If : Type 0) → If → (plan : BootPlan) (steps : List CpuId) (result : Result SystemView Fault) (out : Output)
    → RunsPlan If plan steps result out → RunsTextOn NoCondition (Ok plan) steps result out
runs_alike If here plan steps result out runs = runs_plan If NoCondition (λ always. here) plan steps result out runs

-- out of memory is no more than that, whatever the text
wants_memory : (read : Result BootPlan BootError) (steps : List CpuId) (evidence : NoMemoryTold) (out : Output) → IsUntouched out
    → RunsTextOn NoCondition read steps (Err (NoMemory evidence)) out
wants_memory (Ok plan) steps evidence out untouched = untouched
wants_memory (Err e) steps evidence out untouched = untouched

-- a text that gives no plan is not run: it is rejected, or memory ran out
pub unread_text : (read : Result BootPlan BootError) (steps : List CpuId) (e : BootError) (out : Output) → Fails e read → IsUntouched out
    → RunsTextOn NoCondition read steps (Err (from_boot e)) out
unread_text read steps (refused.NoMemory evidence) out fails untouched = wants_memory read steps evidence out untouched
unread_text read steps other out fails untouched = rw fails (refl, untouched)

-- a fault that is passed on is what is reported
pub fault_told : (read : Result BootPlan BootError) (steps : List CpuId) (fault : Fault) (told : Result State Fault) (out : Output)
    → RunsTextOn NoCondition read steps (Err fault) out → IsErrAnd told (λ f. f ≡ fault) → RunsOverTower read steps told out
fault_told read steps fault (Ok state) out runs is = absurd is
fault_told read steps fault (Err f) out runs is = record { answer = Err fault; runs = runs; tells = is }
