-- A lock with an owner: what its calls make of the owner and of the waiting lists; and the owner as
-- a function of the history.
use Rattle.std.specs.Prelude.{◌≡◌, ◌≢◌, List, [], Option, Some, None, is_some, if◌then◌else◌}
use Rattle.event_log.specs.{declared.ids.{LockId.LockId, Tid.Tid}, Sections.{Section, block_after}}
use Rattle.layer_traits.specs.declared.locked.QLockCall.{QLockCall, TheVariants.{Acquire, Inside}}
use Rattle.layer_traits.specs.declared.locked.{QLockCall.TheVariants.Release, QLockReply.QLockReply}
use Rattle.layer_traits.specs.declared.locked.QLockReply.TheVariants.{Acquired, Queued, Did}
use Rattle.layer_traits.specs.declared.locked.{QLockReply.TheVariants.Released, Side.Side}
use Rattle.layer_traits.specs.declared.locked.Side.TheVariants.{Receivers, Senders}
use Rattle.layer_traits.specs.declared.locked.WakeWaiter.{WakeWaiter, TheVariants.Nobody}
use Rattle.layer_traits.specs.declared.locked.WakeWaiter.TheVariants.{Receiver, Sender}
use Rattle.layer_traits.specs.declared.{moves.WaitList.WaitList, sleeps.Outcome.Outcome}
use Rattle.layer_traits.specs.{Threads.MoveRules.MoveRules, Protocols.Protocol.Rules}
use Rattle.{layer_traits.specs.Layers.Sleeping.joined, thread_blocks.specs.Queues.{is_in, first}}
use Rattle.thread_blocks.specs.Queues.{rest, without}
use Rattle.layer_traits.specs.declared.moves.WaitList.TheVariants as wait_list

-- a lock: its owner, and its waiting lists, each with its first in front
pub record LockState (B : Type 0) : Type 0 where
  pub owner : Option Tid
  pub sleepers : List Tid
  pub receivers : List Tid
  pub senders : List Tid
  pub above : B

-- the owner of a lock, if there is such a lock
abbrev pub owner_in : {B : Type 0} → Option (LockState B) → Option Tid
owner_in None = None
owner_in (Some state) = state.owner

-- what the edits inside a lock mean: their callers, the blocks above that they leave and their
-- results. According to the result, which thread an edit signals and on which side the caller of a
-- last edit waits. After which sections which CPU may do a call
pub record LockRules (F R B O : Type 0) : Type 1 where
  pub caller : F → Tid
  pub edited : F → B → B
  pub answer : F → B → O
  pub signals : O → WakeWaiter
  pub last_caller : R → Tid
  pub last_edited : R → B → B
  pub last_answer : R → B → O
  pub waits : O → Option Side
  pub allowed : (LockId → Option (LockState B)) → List (Section (QLockCall F R))
      → Section (QLockCall F R)
      → Type 0

-- the list of this side, if a caller waits on that side
abbrev pub list_with_waiter : Side → Option Side → Tid → List Tid → List Tid
list_with_waiter Receivers (Some Receivers) t queue = joined t queue
list_with_waiter Senders (Some Senders) t queue = joined t queue
list_with_waiter Receivers (Some Senders) t queue = queue
list_with_waiter Senders (Some Receivers) t queue = queue
list_with_waiter Receivers None t queue = queue
list_with_waiter Senders None t queue = queue

-- the list of this side after a signal
abbrev pub waiting_without : Side → WakeWaiter → List Tid → List Tid
waiting_without Receivers (Receiver u) queue = without u queue
waiting_without Senders (Sender u) queue = without u queue
waiting_without Receivers Nobody queue = queue
waiting_without Receivers (Sender u) queue = queue
waiting_without Senders Nobody queue = queue
waiting_without Senders (Receiver u) queue = queue

-- which of these receivers and senders a signal wakes
abbrev pub signalled : WakeWaiter → List Tid → List Tid → Option Tid
signalled Nobody receivers senders = None
signalled (Receiver u) receivers senders = if is_in u receivers then Some u else None
signalled (Sender u) receivers senders = if is_in u senders then Some u else None

-- the lock that this thread asked for, if this was its owner: it owns the lock, or sleeps for it
abbrev pub lock_asked_by : {B : Type 0} → Tid → Option Tid → LockState B → LockState B
lock_asked_by t None state = record {
  owner = Some t;
  sleepers = state.sleepers;
  receivers = state.receivers;
  senders = state.senders;
  above = state.above;
}
lock_asked_by t (Some owner) state = record {
  owner = Some owner;
  sleepers = joined t state.sleepers;
  receivers = state.receivers;
  senders = state.senders;
  above = state.above;
}

-- its result
abbrev pub asker_report : {O : Type 0} → Option Tid → QLockReply O
asker_report None = Acquired
asker_report (Some owner) = Queued

-- which list it joins
abbrev pub wait_list_asked : Option Tid → Option WaitList
wait_list_asked None = None
wait_list_asked (Some owner) = Some wait_list.Sleepers

-- the waiting list of a side
abbrev pub wait_list_for : Option Side → Option WaitList
wait_list_for None = None
wait_list_for (Some Receivers) = Some wait_list.Receivers
wait_list_for (Some Senders) = Some wait_list.Senders

module _ {F R B O : Type 0} (protocol : LockRules F R B O) where
  -- the calling thread
  abbrev pub lock_caller : QLockCall F R → Tid
  lock_caller (Acquire t) = t
  lock_caller (Inside f) = protocol.caller f
  lock_caller (Release r) = protocol.last_caller r

  -- the lock after a call. A Release does in one event its last edit, names the next owner, and
  -- lets its caller wait
  abbrev pub lock_edited : QLockCall F R → LockState B → LockState B
  lock_edited (Acquire t) state = lock_asked_by t state.owner state
  lock_edited (Inside f) state = record {
    owner = state.owner;
    sleepers = state.sleepers;
    receivers =
        waiting_without Receivers (protocol.signals (protocol.answer f state.above))
        state.receivers;
    senders =
        waiting_without Senders (protocol.signals (protocol.answer f state.above)) state.senders;
    above = protocol.edited f state.above;
  }
  lock_edited (Release r) state = record {
    owner = first state.sleepers;
    sleepers = rest state.sleepers;
    receivers =
        list_with_waiter Receivers (protocol.waits (protocol.last_answer r state.above))
        (protocol.last_caller r) state.receivers;
    senders =
        list_with_waiter Senders (protocol.waits (protocol.last_answer r state.above))
        (protocol.last_caller r) state.senders;
    above = protocol.last_edited r state.above;
  }

  -- which list the caller joins
  abbrev pub lock_slept : QLockCall F R → LockState B → Option WaitList
  lock_slept (Acquire t) state = wait_list_asked state.owner
  lock_slept (Inside f) state = None
  lock_slept (Release r) state = wait_list_for (protocol.waits (protocol.last_answer r state.above))

  -- which thread a call wakes
  abbrev pub lock_woke : QLockCall F R → LockState B → Option Tid
  lock_woke (Acquire t) state = None
  lock_woke (Inside f) state =
      signalled (protocol.signals (protocol.answer f state.above)) state.receivers state.senders
  lock_woke (Release r) state = first state.sleepers

  -- a call's result, without its outcome
  abbrev pub lock_out : QLockCall F R → LockState B → QLockReply O
  lock_out (Acquire t) state = asker_report state.owner
  lock_out (Inside f) state = Did (protocol.answer f state.above)
  lock_out (Release r) state = Released (protocol.last_answer r state.above)

  -- a call's outcome
  abbrev pub lock_answer : QLockCall F R → LockState B → Outcome (QLockReply O)
  lock_answer e state =
      record {
        out = lock_out e state;
        slept = is_some (lock_slept e state);
        woke = lock_woke e state;
      }

  -- which list a caller with this result joined
  abbrev pub wait_list_slept : QLockReply O → Option WaitList
  wait_list_slept Acquired = None
  wait_list_slept Queued = Some wait_list.Sleepers
  wait_list_slept (Did out) = None
  wait_list_slept (Released out) = wait_list_for (protocol.waits out)

  -- a lock after these calls
  abbrev pub lock_after : (LockId → Option (LockState B)) → LockId → List (Section (QLockCall F R))
      → Option (LockState B)
  lock_after opening lock past = block_after lock_edited opening lock past

  -- a call is the owner's; an Acquire is not
  abbrev pub IsOwners : QLockCall F R → Option Tid → Type 0
  IsOwners (Acquire t) owner = owner ≢ Some t
  IsOwners (Inside f) owner = owner ≡ Some (protocol.caller f)
  IsOwners (Release r) owner = owner ≡ Some (protocol.last_caller r)

  -- the owner of a lock: a function of the history only, so that there is at most one
  abbrev pub owner_of : (LockId → Option (LockState B)) → List (Section (QLockCall F R)) → LockId
      → Option Tid
  owner_of opening past lock = owner_in (lock_after opening lock past)

-- a call keeps the protocol: it is the owner's, and the edits above allow it
pub record LockAllowed {F R B O : Type 0} (protocol : LockRules F R B O)
    (opening : LockId → Option (LockState B)) (past : List (Section (QLockCall F R)))
    (s : Section (QLockCall F R)) : Type 0 where
  pub owners : IsOwners protocol s.edit (owner_of protocol opening past s.lock)
  pub granted : protocol.allowed opening past s

-- what the calls on a queuing lock mean
abbrev pub lock_rules : {F R B O : Type 0} → LockRules F R B O
    → Rules (QLockCall F R) (LockState B) (Outcome (QLockReply O))
lock_rules protocol =
    record {
      edited = lock_edited protocol;
      answer = lock_answer protocol;
      allowed = LockAllowed protocol;
    }

-- how they move threads
abbrev pub lock_moves : {F R B O : Type 0} → LockRules F R B O
    → MoveRules (QLockCall F R) (Outcome (QLockReply O))
lock_moves protocol =
    record {
      caller = lock_caller protocol;
      slept = λ outcome. wait_list_slept protocol outcome.out;
      woke = λ outcome. outcome.woke;
    }

-- this waiting list of a lock; empty if there is no such lock
abbrev pub wait_list_in : {B : Type 0} → WaitList → Option (LockState B) → List Tid
wait_list_in l None = []
wait_list_in wait_list.Sleepers (Some state) = state.sleepers
wait_list_in wait_list.Receivers (Some state) = state.receivers
wait_list_in wait_list.Senders (Some state) = state.senders

-- a lock has no owner, and no thread sleeps or waits there
abbrev pub IsAtRest : {B : Type 0} → Option (LockState B) → Type 0
IsAtRest None = Unit {0}
IsAtRest (Some state) =
    (state.owner ≡ None) × (state.sleepers ≡ []) × (state.receivers ≡ []) × (state.senders ≡ [])

-- this holds of each lock
abbrev pub AreAtRest : {B : Type 0} → (LockId → Option (LockState B)) → Type 0
AreAtRest opening = (lock : LockId) → IsAtRest (opening lock)
