-- The plan of each poll is a row of the step table. It requests the table's section, and what it
-- makes of the section's result is what the table makes of it.
use Rattle.std.specs.Prelude.{◌≡◌, ◌⊎◌, ◌<◌, Bool, true, false, List, Option, Some, None, IsSome}
use Rattle.std.specs.Prelude.{length, map, option_map, slice_get}
use Rattle.layer_traits.specs.{Views.OwnParts.threads_in, declared.calls.{Call.Call, Effect.Effect}}
use Rattle.layer_traits.specs.declared.conditions.CvReply.{CvReply}
use Rattle.layer_traits.specs.declared.buffer_edits.BufferReply.{BufferReply}
use Rattle.layer_traits.specs.declared.{locked.QLockReply.QLockReply, call_states.Stage.Stage}
use Rattle.layer_traits.specs.declared.call_states.Stage.TheVariants.{Idle, Acquires, Enters, Tries}
use Rattle.layer_traits.specs.declared.call_states.Stage.TheVariants.{Waits, AcquiresAgain, Signals}
use Rattle.layer_traits.specs.declared.call_states.Stage.TheVariants.{SignalsOwn, Releases}
use Rattle.layer_traits.specs.declared.steps.{Reason.Reason, Step.{Step, TheVariants.Stepped}}
use Rattle.layer_traits.specs.{declared.steps.Step.TheVariants.Halted, Layers.QLockLaw.slept_for}
use Rattle.layer_traits.specs.Layers.BufferLaw.{Buffering, fifo_plan, call_state_of}
use Rattle.layer_traits.specs.Polling.Plans.{Left, Plan, Act, is_in_section}
use Rattle.event_log.specs.declared.{entries.Entry.Entry, ids.{BufId.BufId, CpuId.CpuId}}
use Rattle.event_log.specs.declared.ids.{LockId.{LockId, TheVariants.{Pending, Buffer}}, Tid.Tid}
use Rattle.event_log.specs.Actions.{Action, phase, renamed}
use Rattle.guest.specs.{declared.instructions.Instruction.Instruction, State.{State, next_of}}
use Rattle.{guest.specs.State.message_from, cpu.specs.Table.{Blocks.Name, Setups.SystemConfig}}
use Rattle.cpu.specs.Table.{Setups.{CpuLocal, program_of, opening as table_opening}, Choice.asked}
use Rattle.cpu.specs.Table.{Choice.after_section, Steps.{cpu_step, halted_at}}
use Rattle.cpu.specs.Tower.Views.{TowerName, TowerReply, TowerAnswer, TowerBlock, tower, name_of}
use Rattle.cpu.specs.Tower.{Views.{view, answer_view}, Privates.{state_at, cpu_local_after}}
use Rattle.cpu.specs.Tower.Privates.{cpu_local_of}
use Rattle.guest.specs.declared.instructions.Instruction.TheVariants as instruction
use Rattle.layer_traits.specs.declared.calls.Call.TheVariants as asks_for
use Rattle.layer_traits.specs.declared.conditions.CvReply.TheVariants as cv
use Rattle.layer_traits.specs.declared.locked.QLockReply.TheVariants as lock
use Rattle.layer_traits.specs.declared.queue_edits.QueueBlock.TheVariants as block

-- the outcome of a section that woke this thread
abbrev pub woken_outcome : QLockReply (CvReply BufferReply) → Tid → TowerReply
woken_outcome out u = record { out = out; slept = false; woke = Some u }

-- The states of a begun call: at each stage the hand, the kept result, where its caller slept or
-- waited, and its effect. While a woken thread is in the hand, the result of the section that woke
-- it is kept.
pub data CallStands : Stage → (hand : Option Tid) → (deferred : Option TowerReply)
    → (slept waits : Option BufId) → (effect : Option Effect) → Type 0 where
  asks : CallStands Acquires None None None None None
  was_handed : (b : BufId) → CallStands Acquires None None (Some b) None None
  enters : CallStands Enters None None None None None
  tries : CallStands Tries None None None None None
  waits : CallStands Waits None None None None None
  was_woken : (b : BufId) → CallStands Waits None None None (Some b) None
  asks_anew : CallStands AcquiresAgain None None None None None
  was_handed_again : (b : BufId) → CallStands AcquiresAgain None None (Some b) None None
  signals : (f : Effect) → CallStands Signals None None None None (Some f)
  signals_own : (f : Effect) → CallStands SignalsOwn None None None None (Some f)
  releases : (f : Effect) → CallStands Releases None None None None (Some f)
  has_signalled : (u : Tid) (v : CvReply BufferReply) (f : Effect)
      → CallStands Signals (Some u) (Some (woken_outcome (lock.Did v) u)) None None (Some f)
  has_signalled_own : (u : Tid) (v : CvReply BufferReply) (f : Effect)
      → CallStands SignalsOwn (Some u) (Some (woken_outcome (lock.Did v) u)) None None (Some f)
  has_released : (u : Tid) (f : Effect)
      → CallStands Releases (Some u) (Some (woken_outcome (lock.Released cv.Left) u)) None None
      (Some f)

-- a call that is in a line of its buffer until its effect: every call except a close
abbrev pub IsLined : Call → Type 0
IsLined (asks_for.Send b m) = Unit {0}
IsLined (asks_for.Recv b) = Unit {0}
IsLined (asks_for.Close b) = ⊥

abbrev pub IsLinedIn : Option Call → Type 0
IsLinedIn None = Unit {0}
IsLinedIn (Some call) = IsLined call

-- a call agrees with the stage: only a call in a line tries, waits, or acquires the lock again
abbrev pub FitsStage : Stage → Option Call → Type 0
FitsStage Tries call = IsLinedIn call
FitsStage Waits call = IsLinedIn call
FitsStage AcquiresAgain call = IsLinedIn call
FitsStage stage call = Unit {0}

-- thread t runs and is inside this call
pub record IsGoing (local : Buffering) (guests : List State) (t : Tid) (call : Call) : Type 0 where
  pub current : (threads_in local).current ≡ Some t
  pub begun : (call_state_of local.call_states t).call ≡ Some call
  pub stands : CallStands (call_state_of local.call_states t).stage (threads_in local).hand
      local.cv.lock.sleep.deferred (slept_for local.cv.lock.slept t)
      (slept_for local.cv.waits t) (call_state_of local.call_states t).effect
  pub coupled : FitsStage (call_state_of local.call_states t).stage
      (call_state_of local.call_states t).call
  pub in_guests : t.0 < length guests
  pub in_call_states : t.0 < length local.call_states
  pub in_slept : t.0 < length local.cv.lock.slept
  pub in_waits : t.0 < length local.cv.waits

-- the thread in the hand has a home CPU
abbrev pub HandIsKnown : SystemConfig → Buffering → Type 0
HandIsKnown setup local =
    (u : Tid) → (threads_in local).hand ≡ Some u → IsSome (slice_get setup.homes u.0)

-- a block is of its lock's kind
abbrev pub IsKind : LockId → TowerBlock → Type 0
IsKind (Buffer b) (block.Above state) = Unit {0}
IsKind (Buffer b) (block.Queue threads homes) = ⊥
IsKind (Pending c) (block.Above state) = ⊥
IsKind (Pending c) (block.Queue threads homes) = Unit {0}

-- the locks that a CPU requests: those of the buffers, its own queue and the queues of the home
-- CPUs
abbrev pub IsUsed : SystemConfig → CpuId → LockId → Type 0
IsUsed setup c (Buffer b) = Unit {0}
IsUsed setup c (Pending d) = (d ≡ c) ⊎ ((u : Tid) × (slice_get setup.homes u.0 ≡ Some d))

-- The plan of a poll is the table's row from p. It requests the section that the table requests,
-- leaves p until that has a result, and makes of each result what the table makes of it.
pub record IsLine {A : Type 0} (setup : SystemConfig) (c : CpuId) (p : CpuLocal)
    (plan : Plan TowerName TowerAnswer Buffering A)
    (after : Left Buffering A → CpuLocal) : Type 0 where
  pub lock : LockId
  pub name : TowerName
  pub react : Option TowerAnswer → Left Buffering A
  pub is : plan ≡ Act lock name react
  pub asks : asked setup c p ≡ record { lock = lock; name = name_of name }
  pub used : IsUsed setup c lock
  pub stays : after (react None) ≡ p
  pub gives : (x : TowerBlock) → IsKind lock x
      → HandIsKnown setup (react (Some (tower.answer name x))).local
      → after (react (Some (tower.answer name x)))
      ≡ after_section setup c p (answer_view (tower.answer name x))

-- the plan of every poll of a begun call is a row of the table
abbrev pub PlansAreLines : Type 0
PlansAreLines =
    (setup : SystemConfig) (c : CpuId) (local : Buffering) (guests : List State)
    (trace : List Entry)
    (t : Tid) (call : Call)
    → IsGoing local guests t call → HandIsKnown setup local
    → IsLine setup c (cpu_local_of local guests trace) (fifo_plan setup.homes c t call local)
    (cpu_local_after setup c t call local guests trace)

-- the actions under the table's names
abbrev pub named : List (Action TowerName) → List (Action Name)
named acts = map (renamed name_of) acts

-- the opening blocks of the locks that a CPU requests are the table's
abbrev pub OpensAs : SystemConfig → CpuId → (LockId → Option TowerBlock) → Type 0
OpensAs setup c opening =
    (l : LockId) → IsUsed setup c l → option_map view (opening l) ≡ table_opening setup l

-- the call that an instruction requests
abbrev pub AsksFor : Instruction → State → Call → Type 0
AsksFor (instruction.Send b from k) guest call = call ≡ asks_for.Send b (message_from guest from)
AsksFor (instruction.Recv b into k) guest call = call ≡ asks_for.Recv b
AsksFor (instruction.Close b) guest call = call ≡ asks_for.Close b
AsksFor other guest call = ⊥

-- thread t runs, is in no call, and is at this one
pub record IsBeginning (setup : SystemConfig) (local : Buffering) (guests : List State) (t : Tid)
    (call : Call) : Type 0 where
  pub current : (threads_in local).current ≡ Some t
  pub hand : (threads_in local).hand ≡ None
  pub deferred : local.cv.lock.sleep.deferred ≡ None
  pub slept : slept_for local.cv.lock.slept t ≡ None
  pub waits : slept_for local.cv.waits t ≡ None
  pub at_idle : (call_state_of local.call_states t).stage ≡ Idle
  pub at : AsksFor (next_of (program_of setup t) (state_at guests t)) (state_at guests t) call
  pub in_guests : t.0 < length guests
  pub in_call_states : t.0 < length local.call_states
  pub in_slept : t.0 < length local.cv.lock.slept
  pub in_waits : t.0 < length local.cv.waits

-- the result of a step
abbrev pub busy_step_answer : (busy : Bool) → Option Reason → Step
busy_step_answer true reason = Stepped
busy_step_answer false None = Stepped
busy_step_answer false (Some reason) = Halted reason

-- a step of the table reports that the CPU is halted exactly if it is and no section is under way
abbrev pub HaltsExactly : Type 0
HaltsExactly = (setup : SystemConfig) (c : CpuId) (p : CpuLocal) (log : List (Action Name))
    → (cpu_step setup c p log).answer
    ≡ busy_step_answer (is_in_section (phase c log)) (halted_at setup c p)
