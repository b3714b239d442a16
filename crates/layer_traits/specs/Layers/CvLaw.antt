-- The law of the layer of conditions: what one poll of a call does to the history and to the part's
-- private state. A wait is one event; its result is deferred until its thread is current again. To
-- acquire the lock again is a separate call.
use Rattle.std.specs.Prelude.{◌≡◌, ◌⊎◌, false, List, Option, Some, None, replicate, slice_set}
use Rattle.event_log.specs.declared.ids.{BufId.BufId, CpuId.CpuId, LockId.LockId}
use Rattle.event_log.specs.declared.ids.{LockId.TheVariants.Buffer, Tid.Tid, TheConstants.THREADS}
use Rattle.layer_traits.specs.declared.locked.QLockCall.TheVariants.{Acquire, Inside, Release}
use Rattle.layer_traits.specs.declared.locked.QLockReply.{QLockReply, TheVariants.Acquired}
use Rattle.layer_traits.specs.declared.locked.QLockReply.TheVariants.{Queued, Did, Released}
use Rattle.layer_traits.specs.declared.{locked.Side.Side, conditions.CvLeave.TheVariants.Leave}
use Rattle.layer_traits.specs.declared.conditions.{CvLeave.TheVariants.Wait, CvReply.CvReply}
use Rattle.layer_traits.specs.declared.{moves.WaitList.WaitList, queues.QueueEvent.QueueEvent}
use Rattle.layer_traits.specs.declared.queue_edits.{QueueAnswer.QueueAnswer, QueueEdit.QueueEdit}
use Rattle.layer_traits.specs.declared.{passes.Pass.Pass, scheds.SchedCall.SchedCall}
use Rattle.layer_traits.specs.{declared.sleeps.Outcome.Outcome, Layers.Conditions.MonitorRules}
use Rattle.layer_traits.specs.Layers.{Conditions.{CvCall, cv_rules}, Queues.Kernel}
use Rattle.layer_traits.specs.Layers.{Queues.buffer_sections, QLocking.{LockState, lock_after}}
use Rattle.layer_traits.specs.Layers.{QLocking.{lock_caller, wait_list_in}, QLockLaw.Locking}
use Rattle.layer_traits.specs.Layers.QLockLaw.{LockPolled, MayGo, MayLock, MustWait}
use Rattle.layer_traits.specs.Layers.QLockLaw.{locking_at_start, slept_for, lock_plan}
use Rattle.layer_traits.specs.{Layers.QLockLaw.lock_pass_plan, Threads.MoveRules.MoveRules}
use Rattle.layer_traits.specs.Polling.Plans.{Left, Plan, Now, raised}
use Rattle.thread_blocks.specs.Queues.{is_in}
use Rattle.layer_traits.specs.declared.conditions.CvReply.TheVariants as answer

-- a CPU's private state: that of its queuing locks, and for each thread the buffer at which it
-- waits, until its wait returns
pub record Waiting (O : Type 0) : Type 0 where
  pub lock : Locking (CvReply O)
  pub waits : List (Option BufId)

-- at the start no thread waits
abbrev pub waiting_at_start : {O : Type 0} → List CpuId → CpuId → Waiting O
waiting_at_start homes c =
    record { lock = locking_at_start homes c; waits = replicate THREADS None }

-- what a thread may call: if it does not wait, what the lock allows; if it was woken from a wait,
-- only that wait
abbrev pub MayWait : {G E : Type 0} → Option BufId → Option (SchedCall E) → BufId → CvCall G → Tid
    → Type 0 → Type 0
MayWait None under_way b call t may = may
MayWait (Some at) under_way b call t may =
    (under_way ≡ None) × (at ≡ b) × ((side : Side) × (call ≡ Release (Wait t side)))

-- a call may be polled: its caller runs here, and it continues or may begin
pub record MayCallCond {G B O : Type 0} (monitor_rules : MonitorRules G B O)
    (k : Kernel (CvCall G) (LockState B) (Outcome (QLockReply (CvReply O)))) (c : CpuId)
    (past : List (QueueEvent (CvCall G))) (local : Waiting O)
    (under_way : Option (SchedCall (CvCall G))) (b : BufId) (call : CvCall G) : Type 0 where
  pub runs : local.lock.sleep.threads.current ≡ Some (lock_caller (cv_rules monitor_rules) call)
  pub may : MayWait (slept_for local.waits (lock_caller (cv_rules monitor_rules) call)) under_way b
      call (lock_caller (cv_rules monitor_rules) call)
      (MayGo (slept_for local.lock.slept (lock_caller (cv_rules monitor_rules) call)) under_way b
      call
      (lock_caller (cv_rules monitor_rules) call)
      (MayLock (cv_rules monitor_rules) k c past local.lock.sleep.threads.hand b call))

-- the result of a wait on this side that is over
abbrev pub waited : {O : Type 0} → Side → Outcome (QLockReply (CvReply O))
waited side = record { out = Released (answer.Waited side); slept = false; woke = None }

-- what a poll leaves: the state of the locks, which threads wait, and the result
abbrev pub waiting_with : {O A : Type 0} → Locking (CvReply O) → List (Option BufId) → Option A
    → Left (Waiting O) A
waiting_with lock waits answer =
    record { local = record { lock = lock; waits = waits }; answer = answer }

-- the result of a release: after a wait it is deferred, and its caller waits at this buffer
abbrev pub left_released : {O : Type 0} → Tid → BufId → List (Option BufId) → Locking (CvReply O)
    → CvReply O → Outcome (QLockReply (CvReply O))
    → Left (Waiting O) (Outcome (QLockReply (CvReply O)))
left_released t b waits lock (answer.Did out) outcome = waiting_with lock waits (Some outcome)
left_released t b waits lock (answer.Signalled side front) outcome =
    waiting_with lock waits (Some outcome)
left_released t b waits lock answer.Left outcome = waiting_with lock waits (Some outcome)
left_released t b waits lock (answer.Waited side) outcome =
    waiting_with lock (slice_set waits t.0 (Some b)) None

-- what a poll leaves if the lock returned this
abbrev pub waiting_reported : {O : Type 0} → Tid → BufId → List (Option BufId) → Locking (CvReply O)
    → QLockReply (CvReply O) → Outcome (QLockReply (CvReply O))
    → Left (Waiting O) (Outcome (QLockReply (CvReply O)))
waiting_reported t b waits lock Acquired outcome = waiting_with lock waits (Some outcome)
waiting_reported t b waits lock Queued outcome = waiting_with lock waits (Some outcome)
waiting_reported t b waits lock (Did out) outcome = waiting_with lock waits (Some outcome)
waiting_reported t b waits lock (Released out) outcome = left_released t b waits lock out outcome

-- what a poll leaves, from what the lock's poll left
abbrev pub left_waiting : {O : Type 0} → Tid → BufId → List (Option BufId) → Locking (CvReply O)
    → Option (Outcome (QLockReply (CvReply O)))
    → Left (Waiting O) (Outcome (QLockReply (CvReply O)))
left_waiting t b waits lock None = waiting_with lock waits None
left_waiting t b waits lock (Some outcome) = waiting_reported t b waits lock outcome.out outcome

-- what a poll leaves if the caller was woken from its wait
abbrev pub left_woken : {O : Type 0} → Tid → Side → List (Option BufId) → Locking (CvReply O)
    → Left (Waiting O) (Outcome (QLockReply (CvReply O)))
left_woken t side waits lock = waiting_with lock (slice_set waits t.0 None) (Some (waited side))

-- a poll of a thread that does not wait is a poll of its lock
pub record PollsItsLock {G B O : Type 0} (monitor_rules : MonitorRules G B O)
    (k : Kernel (CvCall G) (LockState B) (Outcome (QLockReply (CvReply O)))) (ActsFor : CpuId
    → Type 0)
    (c : CpuId) (b : BufId) (call : CvCall G) (old new : List (QueueEvent (CvCall G)))
    (local : Waiting O)
    (under_way : Option (SchedCall (CvCall G)))
    (got : Left (Waiting O) (Outcome (QLockReply (CvReply O)))) : Type 0 where
  pub left : Left (Locking (CvReply O)) (Outcome (QLockReply (CvReply O)))
  pub polled : LockPolled (cv_rules monitor_rules) k ActsFor c b call
      (slept_for local.lock.slept (lock_caller
      (cv_rules monitor_rules) call)) old new local.lock under_way left
  pub leaves : got ≡ left_waiting (lock_caller (cv_rules monitor_rules) call) b local.waits
      left.local
      left.answer

-- a poll of a thread that waited only returns: the thread is in no waiting list of the buffer any
-- more
pub record WaitOver {G B O : Type 0} (monitor_rules : MonitorRules G B O)
    (opening : LockId → Option (LockState B)) (b : BufId) (call : CvCall G)
    (old : List (QueueEvent (CvCall G))) (local : Waiting O)
    (under_way : Option (SchedCall (CvCall G)))
    (got : Left (Waiting O) (Outcome (QLockReply (CvReply O)))) : Type 0 where
  pub side : Side
  pub is : call ≡ Release (Wait (lock_caller (cv_rules monitor_rules) call) side)
  pub left : (line : WaitList)
      → is_in (lock_caller (cv_rules monitor_rules) call)
      (wait_list_in line (lock_after (cv_rules monitor_rules) opening (Buffer b)
      (buffer_sections old))) ≡ false
  pub ends : under_way ≡ None
  pub leaves : got ≡ left_woken (lock_caller (cv_rules monitor_rules) call) side local.waits
      local.lock

-- a poll of a call, by case on the buffer at which its caller waits
abbrev pub CvPolled : {G B O : Type 0} → MonitorRules G B O
    → Kernel (CvCall G) (LockState B) (Outcome (QLockReply (CvReply O))) → (CpuId → Type 0) → CpuId
    → BufId
    → CvCall G → Option BufId → List (QueueEvent (CvCall G)) → List (QueueEvent (CvCall G))
    → Waiting O → Option (SchedCall (CvCall G))
    → Left (Waiting O) (Outcome (QLockReply (CvReply O))) → Type 0
CvPolled monitor_rules k ActsFor c b call None old new local under_way got =
    PollsItsLock monitor_rules k ActsFor c b call old new local under_way got
CvPolled monitor_rules k ActsFor c b call (Some at) old new local under_way got =
    WaitOver monitor_rules k.opening b call old local under_way got

-- what the return of a wait leaves; a thread that waited makes no other call
abbrev pub left_over : {G O : Type 0} → Tid → CvCall G → Waiting O
    → Left (Waiting O) (Outcome (QLockReply (CvReply O)))
left_over t (Acquire u) local = waiting_with local.lock local.waits None
left_over t (Inside e) local = waiting_with local.lock local.waits None
left_over t (Release (Leave u)) local = waiting_with local.lock local.waits None
left_over t (Release (Wait u side)) local = left_woken t side local.waits local.lock

-- the plan of a call, by case on the buffer at which its caller waits
abbrev pub cv_plan_for : {G O : Type 0} → MoveRules (CvCall G) (Outcome (QLockReply (CvReply O)))
    → List CpuId → CpuId → BufId → CvCall G → Waiting O → Option BufId
    → Plan (QueueEdit (CvCall G)) (QueueAnswer (Outcome (QLockReply (CvReply O)))) (Waiting O)
    (Outcome (QLockReply (CvReply O)))
cv_plan_for mv homes c b call local None =
    raised (λ l. left_waiting (mv.caller call) b local.waits l.local l.answer)
    (lock_plan mv homes c b call local.lock)
cv_plan_for mv homes c b call local (Some at) = Now (left_over (mv.caller call) call local)

-- the plan of a call
abbrev pub cv_plan : {G O : Type 0} → MoveRules (CvCall G) (Outcome (QLockReply (CvReply O)))
    → List CpuId
    → CpuId → BufId → CvCall G → Waiting O
    → Plan (QueueEdit (CvCall G)) (QueueAnswer (Outcome (QLockReply (CvReply O)))) (Waiting O)
    (Outcome (QLockReply (CvReply O)))
cv_plan mv homes c b call local =
    cv_plan_for mv homes c b call local (slept_for local.waits (mv.caller call))

-- a pass leaves the waiting threads unchanged
abbrev pub waits_passed : {O A : Type 0} → List (Option BufId) → Left (Locking (CvReply O)) A
    → Left (Waiting O) A
waits_passed waits l = waiting_with l.local waits l.answer

-- the plan of a pass
abbrev pub cv_pass_plan : {G O : Type 0} → MoveRules (CvCall G) (Outcome (QLockReply (CvReply O)))
    → List CpuId → CpuId → Pass → Waiting O
    → Plan (QueueEdit (CvCall G)) (QueueAnswer (Outcome (QLockReply (CvReply O)))) (Waiting O)
    (Unit {0})
cv_pass_plan mv homes c p local =
    raised (waits_passed local.waits) (lock_pass_plan mv homes c p local.lock)

-- why a machine that does a whole section in one poll returns no result: its lock returns none, or
-- its caller now waits
abbrev pub MustStay : {O : Type 0} → Tid → BufId → Waiting O → Waiting O → Type 0
MustStay t b old new =
    MustWait t b old.lock new.lock ⊎ (new.waits ≡ slice_set old.waits t.0 (Some b))
