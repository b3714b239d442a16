-- Where a thread is in its message call, read from the sections of the buffers: which lock it
-- holds, in which line it is with which position, and whether its try failed.
use Rattle.std.specs.Prelude.{◌≡◌, ◌≢◌, ℕ, Bool, true, false, not, ◌&&◌, List, [], Option, Some}
use Rattle.std.specs.Prelude.{None, is_some}
use Rattle.event_log.specs.declared.ids.{BufId.BufId, LockId.{LockId, TheVariants.Buffer}, Tid.Tid}
use Rattle.{event_log.specs.History.same_lock, layer_traits.specs.declared.calls.Call.Call}
use Rattle.layer_traits.specs.declared.calls.{Call.TheVariants.Close, Effect.Effect}
use Rattle.layer_traits.specs.declared.buffer_edits.BufferReply.{BufferReply}
use Rattle.layer_traits.specs.declared.{conditions.CvReply.CvReply, locked.QLockReply.QLockReply}
use Rattle.layer_traits.specs.declared.locked.QLockReply.TheVariants.{Acquired, Queued, Did}
use Rattle.layer_traits.specs.declared.locked.{QLockReply.TheVariants.Released, Side.Side}
use Rattle.layer_traits.specs.declared.locked.Side.TheVariants.{Receivers, Senders}
use Rattle.layer_traits.specs.declared.call_states.Stage.{Stage, TheVariants.{Idle, Acquires}}
use Rattle.layer_traits.specs.declared.call_states.Stage.TheVariants.{Tries, Waits, AcquiresAgain}
use Rattle.layer_traits.specs.declared.call_states.Stage.TheVariants.{Signals, SignalsOwn, Releases}
use Rattle.layer_traits.specs.declared.call_states.CallState.{CallState}
use Rattle.layer_traits.specs.Blocks.{BufferBlocks.line_of, BufferEffects.drawn}
use Rattle.layer_traits.specs.Blocks.BufferProtocol.{BufferLock, BufferSection, buffer_lock_at}
use Rattle.layer_traits.specs.{Blocks.BufferProtocol.has_tried_in_vain, Layers.BufferLaw.buffer_of}
use Rattle.layer_traits.specs.{Layers.BufferLaw.{recorded, side_of}, Threads.Places.count_in}
use Rattle.{layer_traits.specs.Threads.Places.one_if, thread_blocks.specs.Queues.is_in}
use Rattle.layer_traits.specs.declared.conditions.CvReply.TheVariants as answer

-- whether two sides are one
abbrev pub same_side : Side → Side → Bool
same_side Receivers Receivers = true
same_side Receivers Senders = false
same_side Senders Receivers = false
same_side Senders Senders = true

-- a call enters a line: a close does not
abbrev pub EntersLine : Call → Type 0
EntersLine (Close b) = ⊥
EntersLine call = Unit {0}

-- a thread owns a lock, and does not sleep for it
abbrev pub HoldsLock : Tid → Option BufferLock → Type 0
HoldsLock t None = ⊥
HoldsLock t (Some lock) = (lock.owner ≡ Some t) × (is_in t lock.sleepers ≡ false)

-- it neither owns it nor sleeps for it
abbrev pub IsFreeOf : Tid → Option BufferLock → Type 0
IsFreeOf t None = Unit {0}
IsFreeOf t (Some lock) = (lock.owner ≢ Some t) × (is_in t lock.sleepers ≡ false)

-- it holds the lock, or requests it, or neither
abbrev pub LockHolding : Tid → Bool → Bool → Option BufferLock → Type 0
LockHolding t true asks lock = HoldsLock t lock
LockHolding t false true lock = Unit {0}
LockHolding t false false lock = IsFreeOf t lock

-- what a stage implies of its thread: whether it holds its buffer's lock, given whether it waits;
-- and whether it is in its line
abbrev pub holds_at : Stage → Bool → Bool
holds_at Idle waits = false
holds_at Acquires waits = false
holds_at Waits waits = not waits
holds_at AcquiresAgain waits = false
holds_at stage waits = true

abbrev pub lined_at : Stage → Bool
lined_at Tries = true
lined_at Waits = true
lined_at AcquiresAgain = true
lined_at stage = false

-- whether a thread at this stage may sleep for its lock, whether it may wait, and whether its
-- effect is done
abbrev pub asks_at : Stage → Bool
asks_at Acquires = true
asks_at AcquiresAgain = true
asks_at stage = false

abbrev pub waits_at : Stage → Bool
waits_at Waits = true
waits_at stage = false

abbrev pub done_at : Stage → Bool
done_at Idle = true
done_at Signals = true
done_at SignalsOwn = true
done_at Releases = true
done_at stage = false

-- whether a stage is one of a call
abbrev pub called_at : Stage → Bool
called_at Idle = false
called_at stage = true

-- the line of a side at a lock
abbrev pub line_at : Side → Option BufferLock → List Tid
line_at side None = []
line_at side (Some lock) = line_of side lock.above

-- a mark is at the call's buffer, and its stage is one that has such marks
abbrev pub IsMark : BufId → Bool → Option BufId → Type 0
IsMark b may None = Unit {0}
IsMark b may (Some at) = (at ≡ b) × (may ≡ true)

module _ (opening : LockId → Option BufferLock) (past : List BufferSection) (t : Tid) where
  -- a thread's grip on each lock, how often it is in each line, and its position if it is in one
  pub record Stance (b : BufId) (side : Side) (holds asks lined : Bool) (position : ℕ) : Type
      0 where
    pub grip : (lock : LockId)
        → LockHolding t (holds && same_lock lock (Buffer b)) (asks && same_lock lock (Buffer b))
        (buffer_lock_at opening past lock)
    pub line : (lock : LockId) (at : Side)
        → count_in t (line_at at (buffer_lock_at opening past lock))
        ≡ one_if (lined && (same_lock lock (Buffer b) && same_side at side))
    pub drawn_is : lined ≡ true → position ≡ drawn opening (Buffer b) side t past

  -- a thread within a call, at a stage, with its position and its effect
  pub record InCall (call : Call) (slept waits : Option BufId) (stage : Stage) (position : ℕ)
      (effect : Option Effect) : Type 0 where
    pub called : called_at stage ≡ true
    pub stance : Stance (buffer_of call) (side_of call) (holds_at stage (is_some waits))
        (is_some slept) (lined_at stage) position
    pub vain : (waits_at stage && not (is_some waits)) ≡ true
        → has_tried_in_vain opening (Buffer (buffer_of call)) (side_of call) t past ≡ true
    pub joins : lined_at stage ≡ true → EntersLine call
    pub effect_is : is_some effect ≡ done_at stage
    pub slept_here : IsMark (buffer_of call) (asks_at stage) slept
    pub waits_here : IsMark (buffer_of call) (waits_at stage) waits

  -- a thread between calls
  pub record AtRest (slept waits : Option BufId) (stage : Stage) : Type 0 where
    pub stage_is : stage ≡ Idle
    pub stance : Stance (record { 0 = 0 }) Senders false false false 0
    pub slept_none : slept ≡ None
    pub waits_none : waits ≡ None

  -- a thread's call state agrees with its call
  abbrev pub CallStateFits : Option Call → Option BufId → Option BufId → CallState → Type 0
  CallStateFits None slept waits call_state = AtRest slept waits call_state.stage
  CallStateFits (Some call) slept waits call_state =
      InCall call slept waits call_state.stage call_state.position call_state.effect

  abbrev pub ThreadFits : Option BufId → Option BufId → CallState → Type 0
  ThreadFits slept waits call_state = CallStateFits call_state.call slept waits call_state

-- a call state within a call
abbrev pub call_state_in : Stage → Call → ℕ → Option Effect → CallState
call_state_in stage call position effect =
    record { stage = stage; call = Some call; position = position; effect = effect }

-- what a section's result leaves of the marks of its caller: whether it sleeps for the lock, and
-- whether it waits
abbrev pub slept_by : BufId → QLockReply (CvReply BufferReply) → Option BufId
slept_by b Queued = Some b
slept_by b other = None

abbrev pub waits_reported : BufId → CvReply BufferReply → Option BufId
waits_reported b (answer.Waited side) = Some b
waits_reported b other = None

abbrev pub waits_by : BufId → QLockReply (CvReply BufferReply) → Option BufId
waits_by b (Released out) = waits_reported b out
waits_by b other = None

-- and of its call state: a caller that sleeps or waits has no result yet
abbrev pub recorded_in : CallState → Stage → CvReply BufferReply → CallState
recorded_in call_state stage (answer.Did out) =
    recorded call_state stage (Released (answer.Did out))
recorded_in call_state stage (answer.Signalled side front) =
    recorded call_state stage (Released (answer.Signalled side front))
recorded_in call_state stage answer.Left = recorded call_state stage (Released answer.Left)
recorded_in call_state stage (answer.Waited side) = call_state

abbrev pub recorded_by : CallState → Stage → QLockReply (CvReply BufferReply) → CallState
recorded_by call_state stage Acquired = recorded call_state stage Acquired
recorded_by call_state stage Queued = call_state
recorded_by call_state stage (Did out) = recorded call_state stage (Did out)
recorded_by call_state stage (Released out) = recorded_in call_state stage out
