-- What a part keeps between its polls, what it may request of the conditions below, and what one
-- poll of them does for a call.
use Rattle.std.specs.Prelude.{◌≡◌, ◌⊎◌, Bool, true, false, List, ◌++◌, length, Option, Some, None}
use Rattle.std.specs.{Prelude.{option_map, option_to_list, is_some}, List.AllByRecursion}
use Rattle.event_log.specs.declared.ids.{BufId.BufId, CpuId.CpuId, LockId.LockId, Tid.Tid}
use Rattle.event_log.specs.{declared.ids.TheConstants.THREADS, History.AreForeign}
use Rattle.layer_traits.specs.declared.buffer_edits.BareBufferReply.{BareBufferReply}
use Rattle.layer_traits.specs.declared.buffer_edits.{BufferEdit.BufferEdit, BufferReply.BufferReply}
use Rattle.layer_traits.specs.declared.calls.{Call.Call, Effect.Effect, Reply.Reply}
use Rattle.layer_traits.specs.declared.{conditions.CvReply.CvReply, locked.QLockReply.QLockReply}
use Rattle.layer_traits.specs.declared.locked.QLockReply.TheVariants.{Queued, Released}
use Rattle.layer_traits.specs.declared.payloads.MessageSlot.{MessageSlot}
use Rattle.layer_traits.specs.declared.{queues.QueueEvent.QueueEvent, scheds.SchedCall.SchedCall}
use Rattle.layer_traits.specs.declared.scheds.SchedCall.TheVariants.{Pass, OnBuffer}
use Rattle.layer_traits.specs.declared.{sleeps.Outcome.Outcome, call_states.Stage.Stage}
use Rattle.layer_traits.specs.declared.call_states.Stage.TheVariants.{Acquires, Waits}
use Rattle.layer_traits.specs.declared.call_states.Stage.TheVariants.{AcquiresAgain}
use Rattle.layer_traits.specs.declared.call_states.CallState.{CallState}
use Rattle.layer_traits.specs.Blocks.{BufferEffects.effects_in, BufferProtocol.BufferLock}
use Rattle.layer_traits.specs.Blocks.{BufferProtocol.BufferSection, Payloads.abstract_buffer_answer}
use Rattle.layer_traits.specs.Blocks.Payloads.{abstract_cv_answer, abstract_lock_answer}
use Rattle.layer_traits.specs.{Blocks.Payloads.abstract_outcome, Layers.BufferLaw.Calling}
use Rattle.layer_traits.specs.Layers.BufferLaw.{UnderWay, IsEffectOf, Passing, buffer_of, entry_of}
use Rattle.layer_traits.specs.Layers.BufferLaw.{recorded, replied, section_at, call_state_of}
use Rattle.layer_traits.specs.Layers.{Conditions.CvCall, CvLaw.Waiting, QLockLaw.slept_for}
use Rattle.layer_traits.specs.{Layers.Queues.buffer_sections, Threads.Places.home_of}
use Rattle.{thread_blocks.specs.Queues.same_tid, fifo_buffer.specs.Stances.{InCall, CallStateFits}}
use Rattle.fifo_buffer.specs.Stances.{ThreadFits, called_at, done_at, waits_at}
use Rattle.layer_traits.specs.declared.conditions.CvReply.TheVariants as answer

-- an event of the buffers, and the result of one's section
abbrev pub BufferEvent : Type 0
BufferEvent = QueueEvent (CvCall BufferEdit)

abbrev pub BufferOutcome : Type 0
BufferOutcome = Outcome (QLockReply (CvReply BufferReply))

-- the outcome that a section's result describes, with the message slot beside it
abbrev pub outcome_of : Outcome (QLockReply (CvReply BareBufferReply)) → MessageSlot → BufferOutcome
outcome_of outcome message_slot =
    abstract_outcome (abstract_lock_answer (abstract_cv_answer abstract_buffer_answer)) outcome
    message_slot

-- a result that is returned at once: its caller neither sleeps for the lock nor waits
abbrev pub is_plain_in : CvReply BufferReply → Bool
is_plain_in (answer.Waited side) = false
is_plain_in other = true

abbrev pub is_plain : QLockReply (CvReply BufferReply) → Bool
is_plain Queued = false
is_plain (Released out) = is_plain_in out
is_plain other = true

-- the call state after a result, if there is one
abbrev pub recorded_if : CallState → Stage → Option BufferOutcome → CallState
recorded_if call_state stage None = call_state
recorded_if call_state stage (Some outcome) = recorded call_state stage outcome.out

-- the reply of a call at a stage, with this effect
abbrev pub reply_at : Call → Stage → Option Effect → Option Reply
reply_at call stage effect =
    replied call (record { stage = stage; call = Some call; position = 0; effect = effect }) stage

-- no section of a buffer is under way
abbrev pub NoSection : Option (SchedCall (CvCall BufferEdit)) → Type 0
NoSection None = Unit {0}
NoSection (Some (Pass p)) = Unit {0}
NoSection (Some (OnBuffer b e)) = ⊥

-- what is under way on a CPU
abbrev pub passing_at : Option (SchedCall (CvCall BufferEdit)) → Option UnderWay
passing_at None = None
passing_at (Some (Pass p)) = Some (Passing p)
passing_at (Some (OnBuffer b e)) = None

abbrev pub under_way_at : Option Tid → Option (SchedCall (CvCall BufferEdit)) → Option UnderWay
under_way_at None under_way = passing_at under_way
under_way_at (Some t) under_way = Some (Calling t)

-- a section is under way: either it has not been done, or it was done with this outcome, which is
-- kept until the thread that it woke is forwarded to its home CPU
pub record IsDeferred (O : LockId → Option BufferLock) (past : List BufferSection) (t : Tid)
    (stage : Stage) (call_state : CallState)
    (outcome : BufferOutcome) : Type 0 where
  pub plain : is_plain outcome.out ≡ true
  pub coupled : CallStateFits O past t (recorded call_state stage outcome.out).call None None
      (recorded call_state stage outcome.out)
  pub effect : (recorded call_state stage outcome.out).effect ≡ call_state.effect
  pub done : is_some call_state.effect ≡ done_at stage
  pub no_wait : waits_at stage ≡ false
  pub called : called_at stage ≡ true

abbrev pub Midway : (LockId → Option BufferLock) → List BufferSection → Tid → Call → CallState
    → Option BufferOutcome → Option Tid → Type 0
Midway O past t call call_state None hand =
    (hand ≡ None) × InCall O past t call None None call_state.stage call_state.position
    call_state.effect
Midway O past t call call_state (Some outcome) hand =
    IsDeferred O past t call_state.stage call_state outcome

-- a thread's call may continue: its next section begins, or the one under way continues
pub record SectionBegins (O : LockId → Option BufferLock) (past : List BufferSection) (t : Tid)
    (call : Call) (call_state : CallState)
    (local : Waiting BufferReply) : Type 0 where
  pub hand : local.lock.sleep.threads.hand ≡ None
  pub deferred : local.lock.sleep.deferred ≡ None
  pub coupled : InCall O past t call (slept_for local.lock.slept t) (slept_for local.waits t)
      call_state.stage call_state.position call_state.effect

pub record GoesOn (O : LockId → Option BufferLock) (past : List BufferSection) (t : Tid)
    (call : Call) (call_state : CallState) (local : Waiting BufferReply)
    (under_way : SchedCall (CvCall BufferEdit)) : Type 0 where
  pub is : under_way ≡ OnBuffer (buffer_of call) (section_at t call call_state.stage)
  pub slept : slept_for local.lock.slept t ≡ None
  pub waits : slept_for local.waits t ≡ None
  pub midway : Midway O past t call call_state local.lock.sleep.deferred
      local.lock.sleep.threads.hand

abbrev pub SectionGoes : (LockId → Option BufferLock) → List BufferSection → Tid → Call → CallState
    → Waiting BufferReply → Option (SchedCall (CvCall BufferEdit))
    → Type 0
SectionGoes O past t call call_state local None = SectionBegins O past t call call_state local
SectionGoes O past t call call_state local (Some under_way) =
    GoesOn O past t call call_state local under_way

pub record MayPollSection (O : LockId → Option BufferLock) (past : List BufferSection) (t : Tid)
    (call : Call) (call_state : CallState)
    (local : Waiting BufferReply)
    (under_way : Option (SchedCall (CvCall BufferEdit))) : Type 0 where
  pub current : local.lock.sleep.threads.current ≡ Some t
  pub called : call_state.call ≡ Some call
  pub goes : SectionGoes O past t call call_state local under_way

-- the lists by thread have a place for each thread that a machine may have
pub record Sizes (local : Waiting BufferReply) (call_states : List CallState) : Type 0 where
  pub slept : length local.lock.slept ≡ THREADS
  pub waits : length local.waits ≡ THREADS
  pub call_states_are : length call_states ≡ THREADS

-- a thread's call state agrees with what was done
abbrev pub FitsAt : (LockId → Option BufferLock) → List BufferSection → Waiting BufferReply
    → List CallState → Tid → Type 0
FitsAt O past local call_states u =
    ThreadFits O past u (slept_for local.lock.slept u) (slept_for local.waits u)
    (call_state_of call_states u)

-- no call of a thread is under way, and all call states of the CPU's threads agree with what was
-- done
pub record IsIdle (homes : List CpuId) (c : CpuId) (O : LockId → Option BufferLock)
    (past : List BufferSection) (local : Waiting BufferReply)
    (call_states : List CallState) (under_way : Option (SchedCall (CvCall BufferEdit))) : Type
    0 where
  pub none : NoSection under_way
  pub deferred : local.lock.sleep.deferred ≡ None
  pub fit : (u : Tid) → home_of homes u ≡ Some c → FitsAt O past local call_states u

-- this thread's call is under way, and the call states of the others agree with what was done
pub record IsAtCall (homes : List CpuId) (c : CpuId) (O : LockId → Option BufferLock)
    (past : List BufferSection) (local : Waiting BufferReply)
    (call_states : List CallState) (under_way : Option (SchedCall (CvCall BufferEdit)))
    (t : Tid) : Type 0 where
  pub call : Call
  pub home : home_of homes t ≡ Some c
  pub may : MayPollSection O past t call (call_state_of call_states t) local under_way
  pub others : (u : Tid) → home_of homes u ≡ Some c → same_tid t u ≡ false
      → FitsAt O past local call_states u

abbrev pub CallsFit : List CpuId → CpuId → (LockId → Option BufferLock) → List BufferSection
    → Waiting BufferReply → List CallState
    → Option (SchedCall (CvCall BufferEdit)) → Option Tid → Type 0
CallsFit homes c O past local call_states under_way None =
    IsIdle homes c O past local call_states under_way
CallsFit homes c O past local call_states under_way (Some t) =
    IsAtCall homes c O past local call_states under_way t

-- a poll that ended its section: the thread keeps running, and its call state has recorded the
-- result
pub record Ended (O : LockId → Option BufferLock) (past : List BufferSection) (t : Tid)
    (call_state : CallState) (local : Waiting BufferReply)
    (under_way : Option (SchedCall (CvCall BufferEdit))) (later : CallState) : Type 0 where
  pub none : under_way ≡ None
  pub current : local.lock.sleep.threads.current ≡ Some t
  pub hand : local.lock.sleep.threads.hand ≡ None
  pub deferred : local.lock.sleep.deferred ≡ None
  pub coupled : CallStateFits O past t later.call (slept_for local.lock.slept t)
      (slept_for local.waits t)
      later
  pub recorded_is : (out : QLockReply (CvReply BufferReply))
      × (later ≡ recorded call_state call_state.stage out)
  pub reply : is_some call_state.effect ≡ done_at call_state.stage
  pub free : (slept_for local.lock.slept t ≡ None) × (slept_for local.waits t ≡ None)

-- a poll that did not: the thread sleeps, or its section continues
pub record Sleeps (O : LockId → Option BufferLock) (past : List BufferSection) (t : Tid)
    (call : Call) (call_state : CallState) (local : Waiting BufferReply)
    (under_way : Option (SchedCall (CvCall BufferEdit))) : Type 0 where
  pub none : under_way ≡ None
  pub current : local.lock.sleep.threads.current ≡ None
  pub deferred : local.lock.sleep.deferred ≡ None
  pub coupled : InCall O past t call (slept_for local.lock.slept t) (slept_for local.waits t)
      call_state.stage call_state.position call_state.effect

pub record SectionStays (O : LockId → Option BufferLock) (past : List BufferSection) (t : Tid)
    (call : Call) (call_state : CallState) (local : Waiting BufferReply)
    (under_way : Option (SchedCall (CvCall BufferEdit))) : Type 0 where
  pub current : local.lock.sleep.threads.current ≡ Some t
  pub section_is : is_some under_way ≡ true
  pub goes : SectionGoes O past t call call_state local under_way

abbrev pub After : (LockId → Option BufferLock) → List BufferSection → Tid → Call → CallState
    → Waiting BufferReply → Option (SchedCall (CvCall BufferEdit))
    → Bool → CallState → Type 0
After O past t call call_state local under_way true later =
    Ended O past t call_state local under_way later
After O past t call call_state local under_way false later =
    (later ≡ call_state) × (Sleeps O past t call call_state local under_way
    ⊎ SectionStays O past t call call_state local under_way)

-- what one poll of a section did: environment events first, then at most one of this CPU; it left
-- this private state and this call state
pub record SectionPolled (homes : List CpuId) (ActsFor : CpuId → Type 0)
    (O : LockId → Option BufferLock) (c : CpuId) (t : Tid) (call : Call)
    (call_state : CallState) (old new : List BufferEvent) (local left : Waiting BufferReply)
    (under_way : Option (SchedCall (CvCall BufferEdit))) (done : Bool)
    (later : CallState) : Type 0 where
  pub others : List BufferEvent
  pub mine : List BufferEvent
  pub foreign : AreForeign ActsFor (λ (e : BufferEvent). e.cpu) others
  pub own_events : AllByRecursion (λ (e : BufferEvent). e.cpu ≡ c) mine
  pub is : new ≡ mine ++ (others ++ old)
  pub effect : Option Effect
  pub effects : effects_in O (buffer_sections new)
      ≡ option_to_list (option_map (entry_of c t (buffer_of call)) effect)
      ++ effects_in O (buffer_sections (others ++ old))
  pub fresh : (f : Effect) → effect ≡ Some f
      → (call_state.effect ≡ None) × (later.effect ≡ Some f) × IsEffectOf call f
  pub stays : effect ≡ None → later.effect ≡ call_state.effect
  pub marks : (u : Tid) → same_tid t u ≡ false
      → (slept_for left.lock.slept u ≡ slept_for local.lock.slept u)
      × (slept_for left.waits u ≡ slept_for local.waits u)
  pub sizes : (length left.lock.slept ≡ length local.lock.slept)
      × (length left.waits ≡ length local.waits)
  pub ended : left.lock.sleep.threads.ended ≡ local.lock.sleep.threads.ended
  pub apart : (u : Tid) → home_of homes u ≡ Some c → same_tid t u ≡ false
      → (of : Option Call) (slept waits : Option BufId) (its : CallState)
      → CallStateFits O (buffer_sections old) u of slept waits its
      → CallStateFits O (buffer_sections new) u of slept waits its
  pub after : After O (buffer_sections new) t call call_state left under_way done later
  pub over : waits_at call_state.stage ≡ true → done ≡ is_some (slept_for local.waits t)
  pub handed : is_some (slept_for local.lock.slept t) ≡ true → done ≡ true

-- whether the next section follows in the same poll, because this stage's ends without an action
abbrev pub is_at_once : Stage → Bool → Bool
is_at_once Acquires handed = handed
is_at_once Waits handed = true
is_at_once AcquiresAgain handed = handed
is_at_once stage handed = false

-- whose call is under way after a poll
abbrev pub calling_after : Tid → Option Tid → Option Reply → Option Tid
calling_after t None answer = None
calling_after t (Some u) None = Some t
calling_after t (Some u) (Some reply) = None
