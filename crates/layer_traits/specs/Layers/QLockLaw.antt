-- What one poll of a queuing lock adds to the history, and what it leaves of the part's private
-- state.
use Rattle.std.specs.Prelude.{◌≡◌, ◌⊎◌, Bool, true, false, List, ◌++◌, Option, Some, None, is_some}
use Rattle.std.specs.Prelude.{replicate, slice_index_or, slice_set, if◌then◌else◌}
use Rattle.event_log.specs.declared.ids.{BufId.BufId, CpuId.CpuId, LockId.LockId}
use Rattle.event_log.specs.declared.ids.{LockId.TheVariants.Buffer, TheConstants.THREADS, Tid.Tid}
use Rattle.event_log.specs.History.{IsLawful, AreOthers}
use Rattle.layer_traits.specs.declared.locked.QLockCall.{QLockCall, TheVariants.{Acquire, Inside}}
use Rattle.layer_traits.specs.declared.locked.{QLockCall.TheVariants.Release, QLockReply.QLockReply}
use Rattle.layer_traits.specs.declared.locked.QLockReply.TheVariants.{Acquired, Queued, Did}
use Rattle.layer_traits.specs.declared.locked.QLockReply.TheVariants.{Released}
use Rattle.layer_traits.specs.declared.{moves.WaitList.WaitList, queue_edits.QueueBlock.QueueBlock}
use Rattle.layer_traits.specs.declared.queue_edits.{QueueEdit.QueueEdit, QueueAnswer.QueueAnswer}
use Rattle.layer_traits.specs.declared.{queues.QueueEvent.QueueEvent, passes.Pass.Pass}
use Rattle.layer_traits.specs.declared.{scheds.SchedCall.SchedCall, sleeps.Outcome.Outcome}
use Rattle.layer_traits.specs.Threads.{ListsAgree.is_at, MoveRules.MoveRules, Places.Stands}
use Rattle.layer_traits.specs.Threads.Places.{one_if, count_in, wait_channel_of, where_is, at_boot}
use Rattle.layer_traits.specs.{Polling.Plans.{Left, Plan, Now, raised}, Protocols.Protocol.section}
use Rattle.layer_traits.specs.{Blocks.QueueBlocks.{inner, homes_in}, Layers.Queues.{Kernel, kernel}}
use Rattle.layer_traits.specs.Layers.Queues.{cpu_of_queue_event, buffer_sections, moves_in}
use Rattle.layer_traits.specs.Layers.{Queues.QueueAllowed, SleepLaw.{Sleeping, SleepPolled}}
use Rattle.layer_traits.specs.Layers.SleepLaw.{MayCall, MustSend, sleep_plan, pass_plan}
use Rattle.layer_traits.specs.Layers.QLocking.{LockRules, LockState, lock_caller, lock_rules}
use Rattle.layer_traits.specs.Layers.QLocking.{lock_moves, lock_after, owner_of, IsOwners}
use Rattle.{layer_traits.specs.Layers.QLocking.wait_list_in, thread_blocks.specs.Queues.is_in}
use Rattle.layer_traits.specs.declared.scheds.SchedCall.TheVariants as call

-- all definitions of what the calls on a queuing lock mean
abbrev pub lock_kernel : {F R B O : Type 0} → LockRules F R B O
    → (LockId → Option (QueueBlock (LockState B)))
    → Kernel (QLockCall F R) (LockState B) (Outcome (QLockReply O))
lock_kernel protocol opening = kernel (lock_rules protocol) (lock_moves protocol) opening

-- a part's private state: that of the layer which lets threads sleep, and for each thread the
-- buffer for whose lock it slept, until its call returns
pub record Locking (O : Type 0) : Type 0 where
  pub sleep : Sleeping (QLockReply O)
  pub slept : List (Option BufId)

-- the buffer for whose lock a thread slept
abbrev pub slept_for : List (Option BufId) → Tid → Option BufId
slept_for slept t = slice_index_or slept t.0 None

-- a part's private state at boot
abbrev pub locking_at_start : {O : Type 0} → List CpuId → CpuId → Locking O
locking_at_start homes c =
    record {
      sleep = record { threads = at_boot homes c; deferred = None };
      slept = replicate THREADS None;
    }

-- whether the current thread was handed a lock for which it slept
abbrev pub is_handed : List (Option BufId) → Option Tid → Bool
is_handed slept None = false
is_handed slept (Some t) = is_some (slept_for slept t)

-- a call may begin: the CPU's hand is empty, the call is the owner's, and the edits above allow it
-- and continue to
pub record MayLock {F R B O : Type 0} (protocol : LockRules F R B O)
    (k : Kernel (QLockCall F R) (LockState B) (Outcome (QLockReply O))) (c : CpuId)
    (past : List (QueueEvent (QLockCall F R))) (hand : Option Tid) (b : BufId)
    (e : QLockCall F R) : Type
    0 where
  pub empty : hand ≡ None
  pub owners : IsOwners protocol e (owner_of protocol k.opening (buffer_sections past) (Buffer b))
  pub stays : (more : List (QueueEvent (QLockCall F R))) → AreOthers cpu_of_queue_event c more
      → IsLawful (QueueAllowed k) (more ++ past)
      → protocol.allowed k.opening (buffer_sections (more ++ past)) (section c (Buffer b) e)

-- a call may be polled: as below, if its caller slept for no lock; a caller that slept for one
-- polls its Acquire again
abbrev pub MayGo : {F R : Type 0} → Option BufId → Option (SchedCall (QLockCall F R)) → BufId
    → QLockCall F R → Tid → Type 0 → Type 0
MayGo None under_way b e t duty = MayCall under_way (call.OnBuffer b e) duty
MayGo (Some at) under_way b e t duty = (under_way ≡ None) × (at ≡ b) × (e ≡ Acquire t)

-- a call may be polled: its caller runs here, and it continues or may begin
pub record MayCallLock {F R B O : Type 0} (protocol : LockRules F R B O)
    (k : Kernel (QLockCall F R) (LockState B) (Outcome (QLockReply O))) (c : CpuId)
    (past : List (QueueEvent (QLockCall F R))) (local : Locking O)
    (under_way : Option (SchedCall (QLockCall F R))) (b : BufId) (e : QLockCall F R) : Type 0 where
  pub runs : local.sleep.threads.current ≡ Some (lock_caller protocol e)
  pub may : MayGo (slept_for local.slept (lock_caller protocol e)) under_way b e
      (lock_caller protocol e)
      (MayLock protocol k c past local.sleep.threads.hand b e)

-- the call asks for the lock
abbrev pub IsAcquire : {F R : Type 0} → QLockCall F R → Type 0
IsAcquire (Acquire t) = Unit {0}
IsAcquire (Inside f) = ⊥
IsAcquire (Release r) = ⊥

-- what a poll leaves
abbrev pub locking : {O : Type 0} → Sleeping (QLockReply O) → List (Option BufId)
    → Option (Outcome (QLockReply O)) → Left (Locking O) (Outcome (QLockReply O))
locking sleep slept answer =
    record { local = record { sleep = sleep; slept = slept }; answer = answer }

-- what a section that was done leaves: a queued thread sleeps for the lock, and its call continues
abbrev pub left_locked : {O : Type 0} → Tid → BufId → List (Option BufId) → Sleeping (QLockReply O)
    → QLockReply O → Outcome (QLockReply O) → Left (Locking O) (Outcome (QLockReply O))
left_locked t b slept sleep Queued outcome = locking sleep (slice_set slept t.0 (Some b)) None
left_locked t b slept sleep Acquired outcome = locking sleep slept (Some outcome)
left_locked t b slept sleep (Did out) outcome = locking sleep slept (Some outcome)
left_locked t b slept sleep (Released out) outcome = locking sleep slept (Some outcome)

-- what the lower layer's poll leaves here, according to its result
abbrev pub left_after : {O : Type 0} → Tid → BufId → List (Option BufId) → Sleeping (QLockReply O)
    → Option (Outcome (QLockReply O)) → Left (Locking O) (Outcome (QLockReply O))
left_after t b slept sleep None = locking sleep slept None
left_after t b slept sleep (Some outcome) = left_locked t b slept sleep outcome.out outcome

-- what is left if the thread was handed the lock
abbrev pub left_handed : {O : Type 0} → Tid → List (Option BufId) → Sleeping (QLockReply O)
    → Left (Locking O) (Outcome (QLockReply O))
left_handed t slept sleep =
    locking sleep (slice_set slept t.0 None)
    (Some (record { out = Acquired; slept = false; woke = None }))

-- a poll that continues a call: one poll of the lower layer; and if the call asks for the lock, no
-- outcome was deferred before
pub record Locks {F R B O : Type 0}
    (k : Kernel (QLockCall F R) (LockState B) (Outcome (QLockReply O)))
    (ActsFor : CpuId → Type 0) (c : CpuId) (b : BufId)
    (e : QLockCall F R) (old new : List (QueueEvent (QLockCall F R))) (local : Locking O)
    (under_way : Option (SchedCall (QLockCall F R)))
    (got : Left (Locking O) (Outcome (QLockReply O))) : Type 0 where
  pub left : Left (Sleeping (QLockReply O)) (Outcome (QLockReply O))
  pub polled : SleepPolled k ActsFor c b e old new local.sleep left
  pub ends : under_way ≡ (if is_some left.answer then None else Some (call.OnBuffer b e))
  pub asks : IsAcquire e → local.sleep.deferred ≡ None
  pub leaves : got ≡ left_after (k.moves.caller e) b local.slept left.local left.answer

-- a poll by which a thread that slept for the lock returns as its owner
pub record Request {F R B O : Type 0} (protocol : LockRules F R B O)
    (opening : LockId → Option (LockState B)) (b : BufId) (t : Tid)
    (old : List (QueueEvent (QLockCall F R))) (local : Locking O)
    (under_way : Option (SchedCall (QLockCall F R)))
    (got : Left (Locking O) (Outcome (QLockReply O))) : Type 0 where
  pub owns : owner_of protocol opening (buffer_sections old) (Buffer b) ≡ Some t
  pub ends : under_way ≡ None
  pub leaves : got ≡ left_handed t local.slept local.sleep

-- a poll of a queuing lock, by case on whether its caller slept for a lock
abbrev pub LockPolled : {F R B O : Type 0} → LockRules F R B O
    → Kernel (QLockCall F R) (LockState B) (Outcome (QLockReply O)) → (CpuId → Type 0) → CpuId
    → BufId
    → QLockCall F R → Option BufId
    → List (QueueEvent (QLockCall F R)) → List (QueueEvent (QLockCall F R)) → Locking O
    → Option (SchedCall (QLockCall F R)) → Left (Locking O) (Outcome (QLockReply O)) → Type 0
LockPolled protocol k ActsFor c b e None old new local under_way got =
    Locks k ActsFor c b e old new local under_way got
LockPolled protocol k ActsFor c b e (Some at) old new local under_way got =
    Request protocol k.opening b (lock_caller protocol e) old local under_way got

-- the plan of a poll, by case on whether its caller slept for a lock
abbrev pub plan_for : {F R O : Type 0} → MoveRules (QLockCall F R) (Outcome (QLockReply O))
    → List CpuId
    → CpuId → BufId → QLockCall F R → Locking O → Option BufId
    → Plan (QueueEdit (QLockCall F R)) (QueueAnswer (Outcome (QLockReply O))) (Locking O)
    (Outcome (QLockReply O))
plan_for mv homes c b e local None =
    raised (λ l. left_after (mv.caller e) b local.slept l.local l.answer)
    (sleep_plan mv homes c b e local.sleep)
plan_for mv homes c b e local (Some at) = Now (left_handed (mv.caller e) local.slept local.sleep)

-- the plan of a poll
abbrev pub lock_plan : {F R O : Type 0} → MoveRules (QLockCall F R) (Outcome (QLockReply O))
    → List CpuId
    → CpuId → BufId → QLockCall F R → Locking O
    → Plan (QueueEdit (QLockCall F R)) (QueueAnswer (Outcome (QLockReply O))) (Locking O)
    (Outcome (QLockReply O))
lock_plan mv homes c b e local = plan_for mv homes c b e local (slept_for local.slept (mv.caller e))

-- what a call that is passed down leaves
abbrev pub locks_passed : {O A : Type 0} → List (Option BufId) → Left (Sleeping (QLockReply O)) A
    → Left (Locking O) A
locks_passed slept l =
    record { local = record { sleep = l.local; slept = slept }; answer = l.answer }

-- the plan of a call that is passed down
abbrev pub lock_pass_plan : {F R O : Type 0} → MoveRules (QLockCall F R) (Outcome (QLockReply O))
    → List CpuId
    → CpuId → Pass → Locking O
    → Plan (QueueEdit (QLockCall F R)) (QueueAnswer (Outcome (QLockReply O))) (Locking O) (Unit {0})
lock_pass_plan mv homes c p local =
    raised (locks_passed local.slept) (pass_plan mv homes c p local.sleep)

-- a thread owns the lock or sleeps for it
abbrev pub HasOrAwaits : {B : Type 0} → Tid → Option (LockState B) → Type 0
HasOrAwaits t None = ⊥
HasOrAwaits t (Some state) = (state.owner ≡ Some t) ⊎ (is_in t state.sleepers ≡ true)

-- the waiting lists of each lock agree with the places of the threads, by count
abbrev pub LocksAgree : {F R B O : Type 0} → LockRules F R B O
    → (LockId → Option (QueueBlock (LockState B))) → List (QueueEvent (QLockCall F R)) → Type 0
LocksAgree protocol opening history = (lock : LockId) (line : WaitList) (t : Tid) →
    count_in t (wait_list_in line
    (lock_after protocol (inner opening) lock (buffer_sections history)))
    ≡ one_if (is_at lock line
    (wait_channel_of (where_is (homes_in opening) (moves_in (lock_kernel protocol opening) history)
    t)))

-- the places of a part's threads are at its CPU, each once and no other. The lists of each lock
-- agree with the places. A thread that is recorded to have slept for a lock owns that lock or still
-- sleeps for it
pub record LockAgrees {F R B O : Type 0} (protocol : LockRules F R B O)
    (opening : LockId → Option (QueueBlock (LockState B))) (c : CpuId)
    (history : List (QueueEvent (QLockCall F R))) (local : Locking O) : Type 0 where
  pub stands : Stands (homes_in opening) c (moves_in (lock_kernel protocol opening) history)
      local.sleep.threads
  pub lists : LocksAgree protocol opening history
  pub awaits : (t : Tid) (b : BufId) → slept_for local.slept t ≡ Some b
      → HasOrAwaits t (lock_after protocol (inner opening) (Buffer b) (buffer_sections history))

-- why the poll of a whole machine returns no result: a woken thread must now be forwarded to its
-- home CPU, or the caller now sleeps for the lock
abbrev pub MustWait : {O : Type 0} → Tid → BufId → Locking O → Locking O → Type 0
MustWait t b old new = MustSend old.sleep new.sleep ⊎ (new.slept ≡ slice_set old.slept t.0 (Some b))
