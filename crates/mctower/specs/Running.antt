-- Running a plan: the system that a schedule leaves over the lock that the plan names, its trace
-- text, and the result of a run.
use Rattle.std.specs.Prelude.{◌≡◌, ℕ, ◌<◌, true, false, List, length, All, Result, Ok, Err}
use Rattle.event_log.specs.{declared.ids.CpuId.CpuId, Streams.IsFirstInFirstOut}
use Rattle.boot.specs.declared.{locks.LockKind.LockKind, refusals.BootError.BootError}
use Rattle.{boot.specs.Plan.BootPlan, cpu.specs.{Linear.IsLinearizable, Claims.MatchesPrograms}}
use Rattle.cpu.specs.Claims.{HasLinearization, SystemView, HasUniquePlace, KeepsAffinity, traces_of}
use Rattle.cpu.specs.{Sound.{IsSetupFor, SoundByTable, setup_for}, Systems.{Ran, whole_of}}
use Rattle.{cpu.specs.Observed.ObservedByTable, tracer.specs.Gather.on_buffer}
use Rattle.mctower.specs.declared.run.run_faults.Fault.{Fault, TheVariants.{NoMemory, Boot, BadCpu}}
use Rattle.mctower.specs.declared.run.run_faults.Fault.TheVariants.{NoOrder, WriteFault}
use Rattle.mctower.specs.declared.run.Ran.{Ran as RanOver, TheVariants.{Ticket, Grant}}
use Rattle.mctower.specs.{declared.tell.state_lines.State.State, Output.{IsUntouched, Output}}
use Rattle.mctower.specs.{Plans.{IsOpened, IsSystemOf, table_run}, State.IsStateOf}
use Rattle.mctower.specs.{Tabled.IsTextOfRun, Texts.IsOut}
use Rattle.boot.specs.declared.locks.LockKind.TheVariants as kind

-- The system of a plan, after a schedule's steps: it was opened with room for exactly these and
-- took them in their order. The plan determines its setup of the step table. If its machine does
-- one action a step, it is the step table's system of the plan after them, and no wake-up is lost.
-- Its observers then return what the table has. The invariants that hold after every list of steps
-- hold of it.
pub record IsRunOf (IsStepwise : Type 0) (plan : BootPlan) (steps : List CpuId)
    (s : SystemView) : Type
    0 where
  pub start : SystemView
  pub opened : IsOpened plan (length steps) start
  pub ran : Ran IsStepwise start steps s
  pub linear : IsLinearizable start steps s
  pub planned : IsSetupFor (setup_for plan) s
  pub table : IsStepwise → whole_of s ≡ table_run plan steps
  pub sound : IsStepwise → SoundByTable s
  pub told : IsStepwise → ObservedByTable s
  pub system : IsSystemOf plan s
  pub room : s.room ≡ length steps
  pub linearization : HasLinearization s
  pub follow : MatchesPrograms s
  pub stay : KeepsAffinity s
  pub once : HasUniquePlace s

-- every step is of one of so many CPUs
abbrev pub AreCpus : ℕ → List CpuId → Type 0
AreCpus cpus steps = All (λ c. c.0 < cpus) steps

-- A possible system of the plan after these steps has its text, or a prefix of it, written. In the
-- text's order, for each buffer the values put are, in that order, the values taken, followed by
-- what is left. If the machine does one action a step, this is the text of the step table's system
-- of the plan after these steps. In the text's order the calls of each buffer are in the order in
-- which they took effect.
pub record IsPrinted (IsStepwise : Type 0) (plan : BootPlan) (steps : List CpuId) (s : SystemView)
    (printed : Output) : Type 0 where
  pub cpus : AreCpus plan.cpus steps
  pub ran : IsRunOf IsStepwise plan steps s
  pub out : IsOut plan.caps (traces_of s) s.contents printed
  pub fifo : IsFirstInFirstOut out.is.order s.contents
  pub in_time : (b : ℕ) → on_buffer b out.is.order ≡ on_buffer b s.order
  pub table : IsStepwise → IsTextOfRun plan steps out.text

-- The result of a run of a plan. A step of a CPU that the plan does not have is rejected before
-- anything is written. Else the plan's system takes the steps, and its text is written.
abbrev pub RunsPlan : Type 0 → BootPlan → List CpuId → Result SystemView Fault → Output → Type 0
RunsPlan IsStepwise plan steps (Ok s) out =
    (out.failed ≡ false) × IsPrinted IsStepwise plan steps s out
RunsPlan IsStepwise plan steps (Err (NoMemory refused)) out = IsUntouched out
RunsPlan IsStepwise plan steps (Err (Boot e)) out = ⊥
RunsPlan IsStepwise plan steps (Err BadCpu) out = (¬ AreCpus plan.cpus steps) × IsUntouched out
RunsPlan IsStepwise plan steps (Err NoOrder) out = ⊥
RunsPlan IsStepwise plan steps (Err WriteFault) out =
    (out.failed ≡ true) × ((s : SystemView) × IsPrinted IsStepwise plan steps s out)

-- ---- of a plan's text

-- the result of a run if the plan's text is rejected: that error, before anything is written
abbrev pub Refuses : BootError → Result SystemView Fault → Output → Type 0
Refuses e (Ok s) out = ⊥
Refuses e (Err (NoMemory refused)) out = IsUntouched out
Refuses e (Err (Boot f)) out = (f ≡ e) × IsUntouched out
Refuses e (Err BadCpu) out = ⊥
Refuses e (Err NoOrder) out = ⊥
Refuses e (Err WriteFault) out = ⊥

-- the result of a run of a text over these layers, by the text's plan or its first fault, unless
-- memory ran out
abbrev pub RunsTextOn : Type 0 → Result BootPlan BootError → List CpuId → Result SystemView Fault
    → Output → Type 0
RunsTextOn IsStepwise (Ok plan) steps result out = RunsPlan IsStepwise plan steps result out
RunsTextOn IsStepwise (Err e) steps result out = Refuses e result out

-- ---- over the lock that the plan names

-- of what is said of the layers over ticket locks and of those over locks with grant words, what is
-- said of those over this lock
abbrev pub on_lock : Type 0 → Type 0 → LockKind → Type 0
on_lock tickets grants kind.Ticket = tickets
on_lock tickets grants kind.Grant = grants

-- the lock under a system after a run, by the case of the result
abbrev pub lock_beneath : {I J M N : Type 0} → RanOver I J M N → LockKind
lock_beneath (Ticket s) = kind.Ticket
lock_beneath (Grant s) = kind.Grant

-- the system after a run, whatever its lock is
abbrev pub system_of : {I J M N : Type 0} → RanOver I J M N → SystemView
system_of (Ticket s) = s
system_of (Grant s) = s

-- a result reduced to its system
abbrev pub system_in : {I J M N : Type 0} → Result (RanOver I J M N) Fault → Result SystemView Fault
system_in (Ok ran) = Ok (system_of ran)
system_in (Err fault) = Err fault

-- if there is a system, this is the lock under it
abbrev pub IsOverLock : {I J M N : Type 0} → LockKind → Result (RanOver I J M N) Fault → Type 0
IsOverLock lock (Ok ran) = lock_beneath ran ≡ lock
IsOverLock lock (Err fault) = Unit {0}

-- The result of a run of a text. The system runs over the lock that the plan names, and the run is
-- one over the layers over that lock. A text that is no plan is rejected.
abbrev pub RunsText : {I J M N : Type 0} → (LockKind → Type 0) → Result BootPlan BootError
    → List CpuId → Result (RanOver I J M N) Fault → Output → Type 0
RunsText IsStepwise (Ok plan) steps result out =
    IsOverLock plan.lock result × RunsPlan (IsStepwise plan.lock) plan steps (system_in result) out
RunsText IsStepwise (Err e) steps result out = Refuses e (system_in result) out

-- what is said of layers of which each poll is one action holds of such layers without a condition
abbrev pub NoCondition : Type 0
NoCondition = Unit {0}

-- what is reported of a run's result: what the state lines report of its system, or its fault
abbrev pub Tells : Result SystemView Fault → Result State Fault → Type 0
Tells (Ok s) (Ok state) = IsStateOf NoCondition s state
Tells (Ok s) (Err fault) = ⊥
Tells (Err fault) (Ok state) = ⊥
Tells (Err fault) (Err told) = told ≡ fault

-- A text was run over layers of which each poll is one action, and this is reported of the result.
pub record RunsOverTower (read : Result BootPlan BootError) (steps : List CpuId)
    (told : Result State Fault) (printed : Output) : Type 0 where
  pub answer : Result SystemView Fault
  pub runs : RunsTextOn NoCondition read steps answer printed
  pub tells : Tells answer told
