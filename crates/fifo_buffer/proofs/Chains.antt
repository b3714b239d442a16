-- A poll of a call follows its plan: one section poll, or two if the first did nothing below.
use Rattle.std.proofs.Common.{◌≡◌, Bool, true, false, List, Option, Some, None, is_some, arith}
use Rattle.event_log.specs.{declared.ids.{CpuId.CpuId, LockId.LockId, Tid.Tid}, Actions.Action}
use Rattle.layer_traits.specs.declared.{buffer_edits.{BufferEdit.BufferEdit, BufferReply.BufferReply}, calls.{Call.Call, Reply.Reply}}
use Rattle.layer_traits.specs.declared.{conditions.CvReply.CvReply, locked.QLockReply.QLockReply, queue_edits.{QueueEdit.QueueEdit, QueueAnswer.QueueAnswer}}
use Rattle.layer_traits.specs.declared.call_states.{Stage.{Stage, TheVariants.{Idle, Acquires, Waits, AcquiresAgain}}, CallState.CallState}
use Rattle.layer_traits.specs.Layers.BufferLaw.{Buffering, BufferPlan, buffer_of, chained, recorded, plan_at, plan_beneath, stage_plan, section_at}
use Rattle.layer_traits.specs.Layers.{BufferLaw.call_state_of, Conditions.CvCall, CvLaw.Waiting, QLockLaw.slept_for, QLocking.lock_moves, Scheds.sched_plan}
use Rattle.layer_traits.specs.{Layers.SleepLaw.due, Blocks.BufferProtocol.buffer_rules, Polling.Plans.{Follows, Left, Plan, Now, Act, Table, raised}}
use Rattle.fifo_buffer.{specs.{Stances.{called_at, waits_at}, SectionPolls.{BufferOutcome, is_at_once}}, proofs.OtherSteps.caller_is}

some_of : {A : Type 0} (x : Option A) → is_some x ≡ true → (a : A) × (x ≡ Some a)
some_of x is = grind arith

-- a plan that acts, and one that returns without an action
abbrev pub IsAct : {N R S A : Type 0} → Plan N R S A → Type 0
IsAct (Now left) = ⊥
IsAct (Act lock name react) = Unit {0}

act_raised : {N R S T A B : Type 0} (f : Left S A → Left T B) (plan : Plan N R S A) → IsAct plan → IsAct (raised f plan)
act_raised f plan acts = grind arith

module _ (homes : List CpuId) (c : CpuId) (t : Tid) (call : Call) (stage : Stage) (local : Waiting BufferReply) where
  same_caller : (lock_moves buffer_rules).caller (section_at t call stage) ≡ t
  same_caller = caller_is t call stage

  sched_acts : (hand : Option Tid)
      → IsAct (sched_plan (lock_moves buffer_rules) homes c (due hand (buffer_of call) (section_at t call stage)) local.lock.sleep.threads)
  sched_acts hand = grind arith

  -- the plan of the layer below, for a thread that neither sleeps for the lock nor waits
  pub beneath_acts : slept_for local.lock.slept t ≡ None → slept_for local.waits t ≡ None → IsAct (plan_beneath homes c t call stage local)
  beneath_acts slept waits = grind (arith, same_caller, act_raised, sched_acts)

-- a plan that acts is followed by nothing
chained_act : {N B R S T A Q : Type 0} (ActsFor : CpuId → Type 0) (table : Table N B R) (opening : LockId → Option B) (cpu : CpuId) (next : T → Plan N R T Q)
    (f : Left S A → Left T Q) (plan : Plan N R S A) (old new : List (Action N)) (got : Left T Q) → IsAct plan
    → Follows ActsFor table opening cpu (raised f plan) old new got → Follows ActsFor table opening cpu (chained next f plan) old new got
chained_act ActsFor table opening cpu next f plan old new got acts follows = grind arith

module _ {B : Type 0} (ActsFor : CpuId → Type 0) (table : Table (QueueEdit (CvCall BufferEdit)) B (QueueAnswer BufferOutcome))
    (opening : LockId → Option B) (cpu : CpuId)
    (homes : List CpuId) (t : Tid) (call : Call) where
  -- one section poll of a thread that neither sleeps for the lock nor waits
  pub one_follows : (stage : Stage) (call_state : CallState) (local : Buffering) (old new : List (Action (QueueEdit (CvCall BufferEdit))))
      (got : Left Buffering Reply) → called_at stage ≡ true → slept_for local.cv.lock.slept t ≡ None → slept_for local.cv.waits t ≡ None
      → Follows ActsFor table opening cpu (stage_plan homes cpu t call stage call_state local) old new got
      → Follows ActsFor table opening cpu (plan_at homes cpu t call stage call_state local) old new got
  one_follows Idle call_state local old new got called slept waits follows = grind arith
  one_follows Acquires call_state local old new got called slept waits follows = grind (arith, chained_act, beneath_acts)
  one_follows Waits call_state local old new got called slept waits follows = grind (arith, chained_act, beneath_acts)
  one_follows AcquiresAgain call_state local old new got called slept waits follows = grind (arith, chained_act, beneath_acts)
  one_follows other call_state local old new got called slept waits follows = follows

  -- the plan of the layer below, if it returns without an action
  abbrev Answers : Plan (QueueEdit (CvCall BufferEdit)) (QueueAnswer BufferOutcome) (Waiting BufferReply) BufferOutcome → Type 0
  Answers plan = (left : Left (Waiting BufferReply) BufferOutcome) × (plan ≡ Now left) × (is_some left.answer ≡ true)

  -- two section polls in one poll
  two_chain : (next : Buffering → BufferPlan Reply) (f : Left (Waiting BufferReply) BufferOutcome → Left Buffering Reply)
      (plan : Plan (QueueEdit (CvCall BufferEdit)) (QueueAnswer BufferOutcome) (Waiting BufferReply) BufferOutcome)
      (old mid new : List (Action (QueueEdit (CvCall BufferEdit)))) (one two : Left Buffering Reply) → Answers plan
      → Follows ActsFor table opening cpu (raised f plan) old mid one
      → Follows ActsFor table opening cpu (next one.local) mid new two → Follows ActsFor table opening cpu (chained next f plan) old new two
  two_chain next f plan old mid new one two answers first second = grind arith

  pub two_follows : (stage : Stage) (call_state : CallState) (local : Buffering) (old mid new : List (Action (QueueEdit (CvCall BufferEdit))))
      (one two : Left Buffering Reply) (handed : Bool) (out : QLockReply (CvReply BufferReply)) → is_at_once stage handed ≡ true
      → call_state_of one.local.call_states t ≡ recorded call_state stage out → (waits_at stage ≡ true → is_some (slept_for local.cv.waits t) ≡ true)
      → (waits_at stage ≡ false → (slept_for local.cv.waits t ≡ None) × (is_some (slept_for local.cv.lock.slept t) ≡ true))
      → slept_for one.local.cv.lock.slept t ≡ None → slept_for one.local.cv.waits t ≡ None
      → Follows ActsFor table opening cpu (stage_plan homes cpu t call stage call_state local) old mid one
      → Follows ActsFor table opening cpu
      (stage_plan homes cpu t call (call_state_of one.local.call_states t).stage (call_state_of one.local.call_states t) one.local) mid new two
      → Follows ActsFor table opening cpu (plan_at homes cpu t call stage call_state local) old new two
  two_follows Acquires call_state local old mid new one two handed out once is waits slept free freed first second = grind (arith, some_of, two_chain)
  two_follows AcquiresAgain call_state local old mid new one two handed out once is waits slept free freed first second = grind (arith, some_of, two_chain)
  two_follows Waits call_state local old mid new one two handed out once is waits slept free freed first second = grind (arith, some_of, two_chain, one_follows)
  two_follows other call_state local old mid new one two handed out once is waits slept free freed first second = absurd cc

-- a plan followed by a holder that acts for fewer CPUs
pub follows_for : {N B R S A : Type 0} (ActsFor Acts : CpuId → Type 0) → ((d : CpuId) → Acts d → ActsFor d) → (table : Table N B R)
    (opening : LockId → Option B) (cpu : CpuId) (plan : Plan N R S A) (old new : List (Action N)) (got : Left S A)
    → Follows ActsFor table opening cpu plan old new got → Follows Acts table opening cpu plan old new got
follows_for ActsFor Acts weaker table opening cpu plan old new got follows = grind arith
