-- The private state of a part of queuing locks: which thread slept for which lock, and how that
-- agrees with the locks.
use Rattle.std.specs.Prelude.{◌≡◌, Bool, true, false, List, Option, Some, None, is_some, slice_set}
use Rattle.event_log.specs.declared.ids.{BufId.BufId, CpuId.CpuId, LockId.LockId}
use Rattle.event_log.specs.declared.ids.{LockId.TheVariants.Buffer, Tid.Tid}
use Rattle.layer_traits.specs.declared.locked.QLockCall.{QLockCall, TheVariants.{Acquire, Inside}}
use Rattle.layer_traits.specs.declared.locked.{QLockCall.TheVariants.Release, QLockReply.QLockReply}
use Rattle.layer_traits.specs.declared.locked.QLockReply.TheVariants.{Acquired, Queued, Did}
use Rattle.layer_traits.specs.declared.locked.QLockReply.TheVariants.{Released}
use Rattle.layer_traits.specs.declared.queue_edits.QueueBlock.{QueueBlock}
use Rattle.layer_traits.specs.declared.{queues.QueueEvent.QueueEvent, scheds.SchedCall.SchedCall}
use Rattle.layer_traits.specs.declared.scheds.SchedCall.TheVariants.{Pass, OnBuffer}
use Rattle.layer_traits.specs.{declared.sleeps.Outcome.Outcome, Layers.QLocking.LockRules}
use Rattle.layer_traits.specs.Layers.{QLocking.{LockState, lock_after}, QLockLaw.HasOrAwaits}
use Rattle.layer_traits.specs.Layers.{QLockLaw.{IsAcquire, slept_for}, Queues.buffer_sections}
use Rattle.layer_traits.specs.{Threads.Places.home_of, Blocks.QueueBlocks.{homes_in, inner}}

-- which thread slept for which lock after a call of t with this result: a queued thread sleeps
abbrev pub slept_left_with : {O : Type 0} → Tid → BufId → List (Option BufId) → QLockReply O
    → List (Option BufId)
slept_left_with t b slept Queued = slice_set slept t.0 (Some b)
slept_left_with t b slept Acquired = slept
slept_left_with t b slept (Did out) = slept
slept_left_with t b slept (Released out) = slept

-- the same, in terms of the outcome of the call
abbrev pub slept_left_by : {O : Type 0} → Tid → BufId → List (Option BufId) → Outcome (QLockReply O)
    → List (Option BufId)
slept_left_by t b slept outcome = slept_left_with t b slept outcome.out

-- which outcome is passed on, according to the call's result: none if the thread is queued
abbrev pub reported_with : {O : Type 0} → QLockReply O → Outcome (QLockReply O)
    → Option (Outcome (QLockReply O))
reported_with Queued outcome = None
reported_with Acquired outcome = Some outcome
reported_with (Did out) outcome = Some outcome
reported_with (Released out) outcome = Some outcome

-- which outcome is passed on
abbrev pub outcome_handed_on : {O : Type 0} → Outcome (QLockReply O)
    → Option (Outcome (QLockReply O))
outcome_handed_on outcome = reported_with outcome.out outcome

-- whether a call is the Acquire of a thread that slept for a lock
abbrev pub asks_again : {F R : Type 0} → List (Option BufId) → QLockCall F R → Bool
asks_again slept (Acquire t) = is_some (slept_for slept t)
asks_again slept (Inside f) = false
asks_again slept (Release r) = false

-- whether a call's result is that it is queued
abbrev pub is_queued : {O : Type 0} → QLockReply O → Bool
is_queued Queued = true
is_queued Acquired = false
is_queued (Did out) = false
is_queued (Released out) = false

-- a thread that slept for the lock of a buffer has this CPU as its home, and owns that lock or
-- still sleeps for it
pub record SleptOne {F R B O : Type 0} (protocol : LockRules F R B O)
    (opening : LockId → Option (QueueBlock (LockState B))) (c : CpuId)
    (history : List (QueueEvent (QLockCall F R))) (t : Tid) (b : BufId) : Type 0 where
  pub here : home_of (homes_in opening) t ≡ Some c
  pub awaits : HasOrAwaits t
      (lock_after protocol (inner opening) (Buffer b) (buffer_sections history))

-- this holds of each thread that slept for a lock
abbrev pub SleptFits : {F R B O : Type 0} → LockRules F R B O
    → (LockId → Option (QueueBlock (LockState B))) → CpuId → List (QueueEvent (QLockCall F R))
    → List (Option BufId) → Type 0
SleptFits protocol opening c history slept =
    (t : Tid) (b : BufId) → slept_for slept t ≡ Some b → SleptOne protocol opening c history t b

-- what is deferred agrees with the pending call and the hand: only the outcome of a call inside or
-- of a release is deferred, and none beside a pass
abbrev pub DeferredFits : {F R O : Type 0} → Option (SchedCall (QLockCall F R))
    → Option (Outcome (QLockReply O)) → Option Tid → Type 0
DeferredFits None None hand = Unit {0}
DeferredFits None (Some outcome) hand = ⊥
DeferredFits (Some (Pass p)) None hand = Unit {0}
DeferredFits (Some (Pass p)) (Some outcome) hand = ⊥
DeferredFits (Some (OnBuffer b e)) None hand = hand ≡ None
DeferredFits (Some (OnBuffer b e)) (Some outcome) hand =
    (IsAcquire e → ⊥) × (is_queued outcome.out ≡ false)
