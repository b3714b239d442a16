-- The law of the layer of buffers: the stages of a message call, and the plan of a poll. What one
-- poll of a call does to the effects, to the moves and to the part's private state.
use Rattle.std.specs.Prelude.{◌≡◌, ◌≢◌, ◌⊎◌, ℕ, List, ◌++◌, Option, Some, None, option_map}
use Rattle.std.specs.Prelude.{option_to_list, replicate, slice_index, slice_index_or, slice_set}
use Rattle.std.specs.List.{AllByRecursion}
use Rattle.event_log.specs.declared.{entries.{Entry.Entry, Kind.Kind}, ids.BufId.BufId}
use Rattle.event_log.specs.declared.ids.{CpuId.CpuId, Tid.Tid, TheConstants.THREADS}
use Rattle.event_log.specs.{Buffers.{IsAllowedEffect, items_of}, Runs.{Closes, Receives, Sends}}
use Rattle.event_log.specs.{Runs.{group_of, is_closed}, History.AreForeign, Messages.Message}
use Rattle.event_log.specs.Messages.{no_message}
use Rattle.layer_traits.specs.declared.locked.QLockCall.TheVariants.{Acquire, Inside, Release}
use Rattle.layer_traits.specs.declared.locked.{QLockReply.QLockReply, Side.Side}
use Rattle.layer_traits.specs.declared.locked.Side.TheVariants.{Receivers, Senders}
use Rattle.layer_traits.specs.declared.conditions.CvEdit.TheVariants.{Edit, SignalFront}
use Rattle.layer_traits.specs.declared.conditions.CvLeave.TheVariants.{Leave, Wait}
use Rattle.layer_traits.specs.declared.conditions.CvReply.{CvReply}
use Rattle.layer_traits.specs.declared.buffer_edits.BufferEdit.{BufferEdit, TheVariants.Enter}
use Rattle.layer_traits.specs.declared.buffer_edits.BufferEdit.TheVariants.{TryPut, TryTake, Shut}
use Rattle.layer_traits.specs.declared.buffer_edits.BufferReply.{BufferReply, TheVariants.Entered}
use Rattle.layer_traits.specs.declared.buffer_edits.BufferReply.TheVariants.{NotYet, Done, WasShut}
use Rattle.layer_traits.specs.declared.calls.Call.{Call, TheVariants.{Send, Recv, Close}}
use Rattle.layer_traits.specs.declared.calls.{Effect.Effect, Reply.Reply, ReplyKind.ReplyKind}
use Rattle.layer_traits.specs.declared.queue_edits.{QueueEdit.QueueEdit, QueueAnswer.QueueAnswer}
use Rattle.layer_traits.specs.declared.{passes.Pass.Pass, sleeps.Outcome.Outcome}
use Rattle.layer_traits.specs.declared.call_states.Stage.{Stage, TheVariants.{Idle, Acquires}}
use Rattle.layer_traits.specs.declared.call_states.Stage.TheVariants.{Enters, Tries, Waits}
use Rattle.layer_traits.specs.declared.call_states.Stage.TheVariants.{AcquiresAgain, Signals}
use Rattle.layer_traits.specs.declared.call_states.Stage.TheVariants.{SignalsOwn, Releases}
use Rattle.layer_traits.specs.{declared.call_states.CallState.CallState, Layers.Conditions.CvCall}
use Rattle.layer_traits.specs.Layers.CvLaw.{Waiting, cv_pass_plan, cv_plan, waiting_at_start}
use Rattle.layer_traits.specs.{Layers.QLocking.lock_moves, Blocks.BufferProtocol.buffer_rules}
use Rattle.layer_traits.specs.{Blocks.BufferEffects.{contents_of, entry}, Threads.Places.Step}
use Rattle.layer_traits.specs.{Threads.Places.{Threads, cpu_of_step}, Polling.Plans.{Left, Plan}}
use Rattle.layer_traits.specs.Polling.Plans.{Now, Act, raised}
use Rattle.event_log.specs.declared.entries.Kind.TheVariants as kind
use Rattle.layer_traits.specs.declared.locked.QLockReply.TheVariants as out
use Rattle.layer_traits.specs.declared.conditions.CvReply.TheVariants as answer
use Rattle.layer_traits.specs.declared.calls.Reply.TheVariants as reply
use Rattle.layer_traits.specs.declared.calls.ReplyKind.TheVariants as bare

-- the buffer of a call
abbrev pub buffer_of : Call → BufId
buffer_of (Send b m) = b
buffer_of (Recv b) = b
buffer_of (Close b) = b

-- its own side, and the other one: a close signals to the receivers first
abbrev pub side_of : Call → Side
side_of (Send b m) = Senders
side_of (Recv b) = Receivers
side_of (Close b) = Senders

abbrev pub other_side : Call → Side
other_side (Send b m) = Receivers
other_side (Recv b) = Senders
other_side (Close b) = Receivers

-- its first edit once it owns the lock, and the edit that it tries: a close is complete after its
-- first
abbrev pub first_of : Tid → Call → BufferEdit
first_of t (Send b m) = Enter t Senders
first_of t (Recv b) = Enter t Receivers
first_of t (Close b) = Shut t

abbrev pub try_of : Tid → Call → BufferEdit
try_of t (Send b m) = TryPut t m
try_of t (Recv b) = TryTake t
try_of t (Close b) = Shut t

-- whether an effect is one of this call: a send's offers its message, whether or not it was put
abbrev pub IsEffectOf : Call → Effect → Type 0
IsEffectOf (Send b m) f = (group_of f.kind ≡ Sends) × (f.value ≡ m)
IsEffectOf (Recv b) f = group_of f.kind ≡ Receives
IsEffectOf (Close b) f = group_of f.kind ≡ Closes

-- the reply of a send, and of a receive of this message, after an effect of this kind
abbrev pub reply_to_send : Kind → Reply
reply_to_send kind.SendClosed = reply.Closed
reply_to_send other = reply.Sent

abbrev pub reply_to_recv : Kind → Message → Reply
reply_to_recv kind.RecvClosed value = reply.Closed
reply_to_recv other value = reply.Got value

-- the reply of a call after an effect of this kind with this message
abbrev pub reply_by : Call → Kind → Message → Reply
reply_by (Send b m) kind value = reply_to_send kind
reply_by (Recv b) kind value = reply_to_recv kind value
reply_by (Close b) kind value = reply.Shut

abbrev pub reply_of : Call → Effect → Reply
reply_of call f = reply_by call f.kind f.value

-- the message of an effect, if there is one
abbrev pub message_of : Option Effect → Message
message_of None = no_message
message_of (Some f) = f.value

-- the reply of this kind to a call that had this effect
abbrev pub reply_with : ReplyKind → Option Effect → Reply
reply_with bare.Sent effect = reply.Sent
reply_with bare.Got effect = reply.Got (message_of effect)
reply_with bare.Shut effect = reply.Shut
reply_with bare.Closed effect = reply.Closed
reply_with bare.NoBuffer effect = reply.NoBuffer

-- the result of a poll that returned this kind, and after which the call has had this effect
abbrev pub answer_with : Option Effect → Option ReplyKind → Option Reply
answer_with effect answer = option_map (λ kind. reply_with kind effect) answer

-- the entry of an effect on a buffer, by a thread of a CPU
abbrev pub entry_of : CpuId → Tid → BufId → Effect → Entry
entry_of cpu t b f = entry cpu t f.kind b f.value f.op f.pos

-- a thread that never called
abbrev pub no_call : CallState
no_call = record { stage = Idle; call = None; position = 0; effect = None }

-- a thread that begins a call
abbrev pub begun : Call → CallState
begun call = record { stage = Acquires; call = Some call; position = 0; effect = None }

-- what its thread's call state is for a poll of a call: between calls a new one begins
abbrev pub going_at : Stage → CallState → Call → CallState
going_at Idle call_state call = begun call
going_at stage call_state call = call_state

abbrev pub going : CallState → Call → CallState
going call_state call = going_at call_state.stage call_state call

-- a thread may poll this call: it is between calls, or this is the one that it has begun
abbrev pub MayPollCall : CallState → Call → Type 0
MayPollCall call_state call = (going call_state call).call ≡ Some call

-- the call that a thread has begun, if it is in one
abbrev pub begun_at : Stage → Option Call → Option Call
begun_at Idle call = None
begun_at stage call = call

abbrev pub begun_of : CallState → Option Call
begun_of call_state = begun_at call_state.stage call_state.call

-- the call state of a thread, in a list by thread
abbrev pub call_state_of : List CallState → Tid → CallState
call_state_of call_states t = slice_index_or call_states t.0 no_call

-- the result of a poll that returned this kind and left these call states
abbrev pub answer_in : List CallState → Tid → Option ReplyKind → Option Reply
answer_in left t answer = answer_with (call_state_of left t).effect answer

-- a result agrees with the call state: the call continues, or it is over and the result is its
-- effect's
abbrev pub Answered : Call → CallState → Option Reply → Type 0
Answered call call_state None = begun_of call_state ≡ Some call
Answered call call_state (Some reply) =
    (call_state.stage ≡ Idle)
    × ((f : Effect) × (call_state.effect ≡ Some f) × (reply ≡ reply_of call f))

-- the CPU of an entry
abbrev pub cpu_of_entry : Entry → CpuId
cpu_of_entry e = e.cpu

-- a poll of a call: environment effects are first, then at most the call's own one; each call has
-- exactly one in all. The call states of other threads are unchanged
pub record Called (ActsFor : CpuId → Type 0) (cpu : CpuId) (t : Tid) (call : Call)
    (call_states left : List CallState)
    (old new : List Entry) (answer : Option Reply) : Type 0 where
  pub others : List Entry
  pub mine : Option Effect
  pub foreign : AreForeign ActsFor cpu_of_entry others
  pub is : new ≡ option_to_list (option_map (entry_of cpu t (buffer_of call)) mine)
      ++ (others ++ old)
  pub fresh : (f : Effect) → mine ≡ Some f
      → ((going (call_state_of call_states t) call).effect ≡ None) ×
      ((call_state_of left t).effect ≡ Some f) × IsEffectOf call f
  pub stays : mine ≡ None → (call_state_of left t).effect
      ≡ (going (call_state_of call_states t) call).effect
  pub answers : Answered call (call_state_of left t) answer
  pub apart : (u : Tid) → u.0 ≢ t.0 → call_state_of left u ≡ call_state_of call_states u

-- only effects of other CPUs
pub record OthersSeen (ActsFor : CpuId → Type 0) (old new : List Entry) : Type 0 where
  pub others : List Entry
  pub foreign : AreForeign ActsFor cpu_of_entry others
  pub is : new ≡ others ++ old

-- the moves grow by environment moves and then by this CPU's own
pub record MovesGrow (ActsFor : CpuId → Type 0) (cpu : CpuId) (old new : List Step) : Type 0 where
  pub others : List Step
  pub mine : List Step
  pub foreign : AreForeign ActsFor cpu_of_step others
  pub local : AllByRecursion (λ s. s.cpu ≡ cpu) mine
  pub is : new ≡ mine ++ (others ++ old)

-- a CPU's pending operation: a call of its current thread, or a call of the scheduler
pub data UnderWay : Type 0 where
  Calling : (thread : Tid) → UnderWay
  Passing : (pass : Pass) → UnderWay

-- what has begun continues
abbrev pub MayGoOn : {A : Type 0} → Option A → A → Type 0
MayGoOn None next = Unit {0}
MayGoOn (Some begun) next = begun ≡ next

-- after a poll of a call, the call is still pending exactly if the thread still runs and there is
-- no result
abbrev pub still_calling : Tid → Option Tid → Option Reply → Option UnderWay
still_calling t None None = None
still_calling t None (Some reply) = None
still_calling t (Some u) None = Some (Calling t)
still_calling t (Some u) (Some reply) = None

-- after a poll of a scheduler's call, if there is no result
abbrev pub still_passing : {A : Type 0} → Pass → Option A → Option UnderWay
still_passing pass None = Some (Passing pass)
still_passing pass (Some answer) = None

-- the thread runs on, or it sleeps and its call continues; a call that returns leaves the hand
-- empty; no thread ends
pub record RunsOn {A : Type 0} (t : Tid) (local left : Threads) (answer : Option A) : Type 0 where
  pub current : (left.current ≡ Some t) ⊎ ((left.current ≡ None) × (answer ≡ None))
  pub hand : (a : A) → answer ≡ Some a → left.hand ≡ None
  pub ended : left.ended ≡ local.ended

-- a buffer allows an effect of this kind with this message after these
abbrev pub AllowsAfter : List ℕ → List Entry → BufId → Kind → Message → Type 0
AllowsAfter caps past b kind m =
    IsAllowedEffect kind (is_closed past b.0) (slice_index caps b.0)
    (items_of (contents_of caps past) b.0) m

-- why a machine that does a whole call in one poll returns no result: the buffer allows the call no
-- effect. A close is always allowed
abbrev pub IsRefused : Call → List ℕ → List Entry → Type 0
IsRefused (Send b m) caps past =
    (AllowsAfter caps past b kind.Send m → ⊥) × (AllowsAfter caps past b kind.SendClosed m → ⊥)
IsRefused (Recv b) caps past =
    (m : Message) → (AllowsAfter caps past b kind.Recv m → ⊥)
    × (AllowsAfter caps past b kind.RecvClosed m → ⊥)
IsRefused (Close b) caps past = ⊥

-- a CPU's private state: that of its conditions, and the call state of each thread
pub record Buffering : Type 0 where
  pub cv : Waiting BufferReply
  pub call_states : List CallState

abbrev pub buffering : Waiting BufferReply → List CallState → Buffering
buffering cv call_states = record { cv = cv; call_states = call_states }

-- at the start no thread ever called
abbrev pub buffering_at_start : List CpuId → CpuId → Buffering
buffering_at_start homes c = buffering (waiting_at_start homes c) (replicate THREADS no_call)

-- the section of a call at a stage
abbrev pub section_at : Tid → Call → Stage → CvCall BufferEdit
section_at t call Idle = Acquire t
section_at t call Acquires = Acquire t
section_at t call Enters = Inside (Edit (first_of t call))
section_at t call Tries = Inside (Edit (try_of t call))
section_at t call Waits = Release (Wait t (side_of call))
section_at t call AcquiresAgain = Acquire t
section_at t call Signals = Inside (SignalFront t (other_side call))
section_at t call SignalsOwn = Inside (SignalFront t (side_of call))
section_at t call Releases = Release (Leave t)

-- the result of an edit of the buffer, in a lock's result
abbrev pub edit_report_in : CvReply BufferReply → BufferReply
edit_report_in (answer.Did out) = out
edit_report_in other = NotYet

abbrev pub reported_by : QLockReply (CvReply BufferReply) → BufferReply
reported_by (out.Did cv) = edit_report_in cv
reported_by other = NotYet

-- the thread has entered its queue: it records its position, and tries next; or it has closed the
-- buffer, and signals
abbrev pub enlisted : CallState → BufferReply → CallState
enlisted call_state (Entered position) =
    record {
      stage = Tries;
      call = call_state.call;
      position = position;
      effect = call_state.effect;
    }
enlisted call_state NotYet = call_state
enlisted call_state (Done kind op value) = call_state
enlisted call_state (WasShut op pos) = record {
  stage = Signals;
  call = call_state.call;
  position = call_state.position;
  effect = Some (record { kind = kind.Close; value = no_message; op = op; pos = pos });
}

-- the thread has tried: after its effect it signals, otherwise it waits
abbrev pub tried : CallState → BufferReply → CallState
tried call_state (Entered position) =
    record {
      stage = Waits;
      call = call_state.call;
      position = call_state.position;
      effect = call_state.effect;
    }
tried call_state NotYet =
    record {
      stage = Waits;
      call = call_state.call;
      position = call_state.position;
      effect = call_state.effect;
    }
tried call_state (WasShut op pos) =
    record {
      stage = Waits;
      call = call_state.call;
      position = call_state.position;
      effect = call_state.effect;
    }
tried call_state (Done kind op value) = record {
  stage = Signals;
  call = call_state.call;
  position = call_state.position;
  effect = Some (record { kind = kind; value = value; op = op; pos = call_state.position });
}

-- the call state at another stage
abbrev pub at_stage : Stage → CallState → CallState
at_stage stage call_state =
    record {
      stage = stage;
      call = call_state.call;
      position = call_state.position;
      effect = call_state.effect;
    }

-- the call state after the section of a stage with this result
abbrev pub recorded : CallState → Stage → QLockReply (CvReply BufferReply) → CallState
recorded call_state Idle out = call_state
recorded call_state Acquires out = at_stage Enters call_state
recorded call_state Enters out = enlisted call_state (reported_by out)
recorded call_state Tries out = tried call_state (reported_by out)
recorded call_state Waits out = at_stage AcquiresAgain call_state
recorded call_state AcquiresAgain out = at_stage Tries call_state
recorded call_state Signals out = at_stage SignalsOwn call_state
recorded call_state SignalsOwn out = at_stage Releases call_state
recorded call_state Releases out =
    record { stage = Idle; call = None; position = call_state.position; effect = call_state.effect }

-- the reply of a call at a stage: the last section's result is the effect's
abbrev pub replied : Call → CallState → Stage → Option Reply
replied call call_state Releases = option_map (reply_of call) call_state.effect
replied call call_state stage = None

-- what a poll leaves, from what the poll of its section left
abbrev pub left_recorded_with : Tid → Call → CallState → List CallState → Stage
    → Waiting BufferReply
    → Option (Outcome (QLockReply (CvReply BufferReply)))
    → Left Buffering Reply
left_recorded_with t call call_state call_states stage cv None =
    record { local = buffering cv (slice_set call_states t.0 call_state); answer = None }
left_recorded_with t call call_state call_states stage cv (Some outcome) =
    record {
      local = buffering cv (slice_set call_states t.0 (recorded call_state stage outcome.out));
      answer = replied call call_state stage;
    }

abbrev pub left_recorded : Tid → Call → CallState → List CallState → Stage
    → Left (Waiting BufferReply) (Outcome (QLockReply (CvReply BufferReply))) → Left Buffering Reply
left_recorded t call call_state call_states stage left =
    left_recorded_with t call call_state call_states stage left.local left.answer

-- the names, results and states of the plans of buffers
abbrev pub BufferPlan : Type 0 → Type 0
BufferPlan A =
    Plan (QueueEdit (CvCall BufferEdit)) (QueueAnswer (Outcome (QLockReply (CvReply BufferReply))))
    Buffering
    A

-- a plan that continues in the same poll if the lower layer's section returns without an action
abbrev pub chained_now : {N R S T A B : Type 0} → (T → Plan N R T B) → (Left S A → Left T B)
    → Left S A → Option A → Plan N R T B
chained_now next f left None = Now (f left)
chained_now next f left (Some answer) = next (f left).local

abbrev pub chained : {N R S T A B : Type 0} → (T → Plan N R T B) → (Left S A → Left T B)
    → Plan N R S A → Plan N R T B
chained next f (Now left) = chained_now next f left left.answer
chained next f (Act lock name react) = Act lock name (λ reply. f (react reply))

module _ (homes : List CpuId) (c : CpuId) (t : Tid) (call : Call) where
  -- the plan of a stage's section, in the lower layer
  abbrev pub plan_beneath : Stage → Waiting BufferReply
      → Plan (QueueEdit (CvCall BufferEdit))
      (QueueAnswer (Outcome (QLockReply (CvReply BufferReply))))
      (Waiting BufferReply) (Outcome (QLockReply (CvReply BufferReply)))
  plan_beneath stage cv =
      cv_plan (lock_moves buffer_rules) homes c (buffer_of call) (section_at t call stage) cv

  -- the plan of one section of a call, at a stage
  abbrev pub stage_plan : Stage → CallState → Buffering → BufferPlan Reply
  stage_plan stage call_state local =
      raised (left_recorded t call call_state local.call_states stage) (plan_beneath stage local.cv)

  -- the plan of a stage whose section may be over without an action: the next stage's section then
  -- follows in the same poll
  abbrev pub plan_on : Stage → (CallState → Buffering → BufferPlan Reply) → CallState → Buffering
      → BufferPlan Reply
  plan_on stage next call_state local =
      chained (λ left. next (call_state_of left.call_states t) left)
      (left_recorded t call call_state local.call_states stage) (plan_beneath stage local.cv)

  -- the plan of a call at a stage
  abbrev pub plan_at : Stage → CallState → Buffering → BufferPlan Reply
  plan_at Idle call_state local = plan_on Acquires (stage_plan Enters) call_state local
  plan_at Acquires call_state local = plan_on Acquires (stage_plan Enters) call_state local
  plan_at Enters call_state local = stage_plan Enters call_state local
  plan_at Tries call_state local = stage_plan Tries call_state local
  plan_at Waits call_state local =
      plan_on Waits (plan_on AcquiresAgain (stage_plan Tries)) call_state local
  plan_at AcquiresAgain call_state local = plan_on AcquiresAgain (stage_plan Tries) call_state local
  plan_at Signals call_state local = stage_plan Signals call_state local
  plan_at SignalsOwn call_state local = stage_plan SignalsOwn call_state local
  plan_at Releases call_state local = stage_plan Releases call_state local

  -- the plan of a poll of a call
  abbrev pub fifo_plan : Buffering → BufferPlan Reply
  fifo_plan local =
      plan_at (going (call_state_of local.call_states t) call).stage
      (going (call_state_of local.call_states t) call) local

-- a pass leaves the call states unchanged
abbrev pub call_states_passed : {A : Type 0} → List CallState → Left (Waiting BufferReply) A
    → Left Buffering A
call_states_passed call_states left =
    record { local = buffering left.local call_states; answer = left.answer }

-- the plan of a pass
abbrev pub fifo_pass_plan : List CpuId → CpuId → Pass → Buffering → BufferPlan (Unit {0})
fifo_pass_plan homes c p local =
    raised (call_states_passed local.call_states)
    (cv_pass_plan (lock_moves buffer_rules) homes c p local.cv)
