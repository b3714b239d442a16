-- A CPU's part, its guests by thread number and its trace as the table's private state. Some
-- sections of a woken thread, or of its caller, the part does only after that thread runs again,
-- when the table has already continued. Both do the same actions.
use Rattle.std.specs.Prelude.{ℕ, ◌+◌, Bool, true, false, ◌&&◌, List, [], ◌∷◌, ◌++◌, Option, Some}
use Rattle.std.specs.Prelude.{None, is_some, option_map, slice_index_or, slice_set}
use Rattle.layer_traits.specs.{Views.OwnParts.threads_in, declared.calls.Call.Call as TowerCall}
use Rattle.layer_traits.specs.declared.{calls.{Effect.Effect, Reply.Reply}, passes.Pass.Pass}
use Rattle.layer_traits.specs.declared.call_states.Stage.{Stage, TheVariants.{Idle, Acquires}}
use Rattle.layer_traits.specs.declared.call_states.Stage.TheVariants.{Enters, Tries, Waits}
use Rattle.layer_traits.specs.declared.call_states.Stage.TheVariants.{AcquiresAgain, Signals}
use Rattle.layer_traits.specs.declared.call_states.Stage.TheVariants.{SignalsOwn, Releases}
use Rattle.layer_traits.specs.{declared.call_states.CallState.CallState, Layers.QLockLaw.slept_for}
use Rattle.layer_traits.specs.Layers.BufferLaw.{Buffering, begun_at, buffer_of, entry_of, going}
use Rattle.layer_traits.specs.{Layers.BufferLaw.call_state_of, Threads.Places.is_thread}
use Rattle.{layer_traits.specs.Polling.Plans.Left, event_log.specs.declared.entries.Entry.Entry}
use Rattle.event_log.specs.declared.{entries.Kind.Kind, ids.{BufId.BufId, CpuId.CpuId, Tid.Tid}}
use Rattle.event_log.specs.{Messages.{Message, no_message}, Runs.{Group, Sends, Receives, Closes}}
use Rattle.guest.specs.State.{State, at_start, next_of, after_yield}
use Rattle.{thread_blocks.specs.Queues.is_in, cpu.specs.Guests.after_answer}
use Rattle.cpu.specs.Table.Setups.{SystemConfig, Call, Thread, CpuLocal, program_of}
use Rattle.event_log.specs.declared.entries.Kind.TheVariants as kind
use Rattle.layer_traits.specs.declared.calls.Call.TheVariants as asks
use Rattle.layer_traits.specs.declared.passes.Pass.TheVariants as pass

-- the table's stage of a call: a call whose caller slept for the lock, or waited, has done that
-- section
abbrev pub stage_of : Stage → (slept waits : Option BufId) → Stage
stage_of Acquires (Some b) waits = Enters
stage_of Waits slept (Some b) = AcquiresAgain
stage_of AcquiresAgain (Some b) waits = Tries
stage_of stage slept waits = stage

-- the table's stage of a call whose section is done and returns once the thread that it woke has
-- left the hand
abbrev pub deferred_stage : Stage → Stage
deferred_stage Signals = SignalsOwn
deferred_stage SignalsOwn = Releases
deferred_stage Releases = Idle
deferred_stage stage = stage

-- the message of a call: that of its effect, once it has one
abbrev pub call_message : TowerCall → Option Effect → Message
call_message call (Some f) = f.value
call_message (asks.Send b m) None = m
call_message (asks.Recv b) None = no_message
call_message (asks.Close b) None = no_message

-- its position: that of its effect, once it has one
abbrev pub position_of : ℕ → Option Effect → ℕ
position_of position (Some f) = f.pos
position_of position None = position

-- whether its effect found the buffer closed
abbrev pub closed_by : TowerCall → Kind → Bool
closed_by (asks.Send b m) kind.SendClosed = true
closed_by (asks.Recv b) kind.RecvClosed = true
closed_by call other = false

abbrev pub call_was_closed : TowerCall → Option Effect → Bool
call_was_closed call (Some f) = closed_by call f.kind
call_was_closed call None = false

abbrev pub op_of : Effect → ℕ
op_of f = f.op

-- what a call asks for
abbrev pub asks_in : TowerCall → Group
asks_in (asks.Send b m) = Sends
asks_in (asks.Recv b) = Receives
asks_in (asks.Close b) = Closes

abbrev pub call_from : TowerCall → ℕ → Option Effect → Stage → Call
call_from call position effect stage = record {
  asks = asks_in call;
  buffer = buffer_of call;
  message = call_message call effect;
  position = position_of position effect;
  effect = option_map op_of effect;
  closed = call_was_closed call effect;
  stage = stage;
}

abbrev pub stage_from : Stage → (slept waits : Option BufId) → (deferred : Bool) → Stage
stage_from stage slept waits true = deferred_stage stage
stage_from stage slept waits false = stage_of stage slept waits

-- a thread, from its call state, where it sleeps or waits, whether its section's result is kept,
-- whether it has ended, and its guest
abbrev pub thread_from : CallState → (slept waits : Option BufId) → (deferred ended : Bool) → State
    → Thread
thread_from call_state slept waits deferred ended guest = record {
  guest = guest;
  call =
      option_map (λ call. call_from call call_state.position call_state.effect
      (stage_from call_state.stage slept waits deferred))
      (begun_at call_state.stage call_state.call);
  ended = ended;
}

-- whether a result is kept for a thread
abbrev pub is_deferred : Buffering → Tid → Bool
is_deferred local u = is_thread u (threads_in local).current && is_some local.cv.lock.sleep.deferred

abbrev pub thread_of : Buffering → Tid → State → Thread
thread_of local u guest =
    thread_from (call_state_of local.call_states u) (slept_for local.cv.lock.slept u)
    (slept_for local.cv.waits u) (is_deferred local u)
    (is_in u (threads_in local).ended) guest

-- threads by number, from n upwards
abbrev pub threads_numbered : (ℕ → State → Thread) → ℕ → List State → List Thread
threads_numbered thread n [] = []
threads_numbered thread n (guest ∷ guests) = thread n guest ∷ threads_numbered thread (n + 1) guests

abbrev pub tid : ℕ → Tid
tid n = record { 0 = n }

-- a CPU's private state: its part, one guest's state for each number, and its trace, oldest first
abbrev pub cpu_local_of : Buffering → List State → List Entry → CpuLocal
cpu_local_of local guests trace = record {
  current = (threads_in local).current;
  ready = (threads_in local).ready;
  hand = (threads_in local).hand;
  threads = threads_numbered (λ n. thread_of local (tid n)) 0 guests;
  trace = trace;
}

abbrev pub state_at : List State → Tid → State
state_at guests t = slice_index_or guests t.0 at_start

-- the guests after a poll of a call: its caller's continues once the call replies
abbrev pub guests_after : SystemConfig → Tid → Option Reply → List State → List State
guests_after setup t None guests = guests
guests_after setup t (Some reply) guests =
    slice_set guests t.0 (after_answer (Some reply)
    (next_of (program_of setup t) (state_at guests t)) (state_at guests t))

-- the trace after a poll: an effect writes its entry in the poll in which it occurs
abbrev pub trace_after : CpuId → Tid → BufId → (before after : Option Effect) → List Entry
    → List Entry
trace_after c t b None (Some f) trace = trace ++ entry_of c t b f ∷ []
trace_after c t b before after trace = trace

-- the private state after a poll of a call
abbrev pub cpu_local_after : SystemConfig → CpuId → Tid → TowerCall → Buffering → List State
    → List Entry
    → Left Buffering Reply → CpuLocal
cpu_local_after setup c t call local guests trace left =
    cpu_local_of left.local (guests_after setup t left.answer guests)
    (trace_after c t (buffer_of call) (going (call_state_of local.call_states t) call).effect
    (call_state_of left.local.call_states t).effect trace)

-- the guests after a poll of a pass: that of a thread which has yielded continues
abbrev pub guests_passed : SystemConfig → Pass → Option Tid → Option (Unit {0}) → List State
    → List State
guests_passed setup pass.YieldNow (Some t) (Some answer) guests =
    slice_set guests t.0 (after_yield (next_of (program_of setup t) (state_at guests t))
    (state_at guests t))
guests_passed setup other current answer guests = guests

-- the private state after a poll of a pass
abbrev pub cpu_local_passed : SystemConfig → Buffering → List State → List Entry → Pass
    → Left Buffering (Unit {0}) → CpuLocal
cpu_local_passed setup local guests trace p left =
    cpu_local_of left.local (guests_passed setup p (threads_in local).current left.answer guests)
    trace
