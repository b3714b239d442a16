-- Monitors as a layer of buffers: for which section a call is due, what its result leaves of the
-- thread's call state, and what a part keeps between its polls.
use Rattle.std.specs.Prelude.{◌≡◌, ◌≢◌, Bool, true, false, List, length, Option, Some, None, IsSome}
use Rattle.std.specs.Prelude.{option_map, replicate}
use Rattle.event_log.specs.declared.ids.{LockId.LockId, Tid.Tid, TheConstants.THREADS}
use Rattle.layer_traits.specs.declared.calls.Call.{Call, TheVariants.{Send, Recv, Close}}
use Rattle.layer_traits.specs.declared.{calls.{Effect.Effect, Reply.Reply}, locked.Side.Side}
use Rattle.layer_traits.specs.declared.locked.Side.TheVariants.{Receivers, Senders}
use Rattle.layer_traits.specs.declared.call_states.{CallState.CallState, Stage.Stage}
use Rattle.layer_traits.specs.declared.call_states.Stage.TheVariants.{Idle, Acquires, Enters, Tries}
use Rattle.layer_traits.specs.declared.call_states.Stage.TheVariants.{Waits, AcquiresAgain, Signals}
use Rattle.layer_traits.specs.declared.call_states.Stage.TheVariants.{SignalsOwn, Releases}
use Rattle.layer_traits.specs.declared.{queue_edits.QueueBlock.QueueBlock, sleeps.Outcome.Outcome}
use Rattle.layer_traits.specs.declared.scheds.SchedCall.{SchedCall, TheVariants.{OnBuffer, Pass}}
use Rattle.layer_traits.specs.Blocks.{BufferProtocol.BufferLock, Capacities.caps_in}
use Rattle.layer_traits.specs.{Blocks.QueueBlocks.inner, Threads.Places.Threads}
use Rattle.layer_traits.specs.{Views.Renaming.viewed, Layers.BufferLaw.{Buffering, Calling}}
use Rattle.layer_traits.specs.Layers.BufferLaw.{Passing, UnderWay, buffer_of, buffering}
use Rattle.layer_traits.specs.Layers.BufferLaw.{call_state_of, other_side, reply_of, side_of}
use Rattle.{layer_traits.specs.Layers.SleepLaw.Sleeping, fifo_buffer.specs.Monitors.buffer_alone}
use Rattle.fifo_buffer.specs.MonitorHistories.{MonitorLocked, fresh_monitors}
use Rattle.fifo_buffer.specs.declared.monitor_blocks.MonitorAsk.{MonitorAsk}
use Rattle.fifo_buffer.specs.declared.monitor_blocks.MonitorEdit.{MonitorEdit}
use Rattle.fifo_buffer.specs.declared.monitor_blocks.MonitorReply.{MonitorReply, TheVariants.Acted}
use Rattle.fifo_buffer.specs.declared.monitor_blocks.MonitorReply.TheVariants.{Refused, Woke}
use Rattle.fifo_buffer.specs.declared.monitor_blocks.MonitorAsk.TheVariants as ask

-- a buffer as the layer's trait shows it: its lock has no owner, and the lines of the block are
-- empty
abbrev pub monitor_shown : MonitorLocked → BufferLock
monitor_shown state = record {
  owner = None;
  sleepers = state.sleepers;
  receivers = state.receivers;
  senders = state.senders;
  above = buffer_alone state.above;
}

-- the machine opened with a fresh monitor for each buffer
abbrev pub OpensFresh : (LockId → Option (QueueBlock MonitorLocked)) → Type 0
OpensFresh opening = inner opening ≡ fresh_monitors (caps_in (viewed monitor_shown opening))

-- what a call asks of its buffer
abbrev pub asked_of : Call → MonitorAsk
asked_of (Send b m) = ask.Send m
asked_of (Recv b) = ask.Receive
asked_of (Close b) = ask.Close

-- what its thread asks at a stage. Once its call has had its effect, it wakes those whom it owes a
-- wake-up
abbrev pub ask_due : Stage → Call → MonitorAsk
ask_due Signals call = ask.WakeFirst (other_side call)
ask_due SignalsOwn call = ask.WakeFirst (side_of call)
ask_due stage call = asked_of call

-- the section of a call at a stage
abbrev pub monitor_section : Tid → Call → Stage → MonitorEdit
monitor_section t call stage = record { thread = t; ask = ask_due stage call }

-- whether a stage is one at which the thread wakes another
abbrev pub is_waking : Stage → Bool
is_waking Signals = true
is_waking SignalsOwn = true
is_waking stage = false

-- the stage of a call that has had its effect: its thread wakes the first of this side, or the call
-- is over
abbrev pub stage_by : Side → Option Side → Stage
stage_by local None = Idle
stage_by Receivers (Some Receivers) = SignalsOwn
stage_by Receivers (Some Senders) = Signals
stage_by Senders (Some Receivers) = Signals
stage_by Senders (Some Senders) = SignalsOwn

-- the call state of a call with this effect at a stage
abbrev pub acted_at : Call → Stage → Option Effect → CallState
acted_at call Idle effect = record { stage = Idle; call = None; position = 0; effect = effect }
acted_at call stage effect =
    record { stage = stage; call = Some call; position = 0; effect = effect }

-- the call state after the result of a section: a call that had no effect tries again once its
-- thread is woken
abbrev pub monitor_recorded : Call → CallState → MonitorReply → CallState
monitor_recorded call call_state (Acted effect next) =
    acted_at call (stage_by (side_of call) next) (Some effect)
monitor_recorded call call_state (Refused side) = call_state
monitor_recorded call call_state (Woke woke next) =
    acted_at call (stage_by (side_of call) next) call_state.effect

abbrev pub monitor_recorded_if : Call → CallState → Option (Outcome MonitorReply) → CallState
monitor_recorded_if call call_state None = call_state
monitor_recorded_if call call_state (Some outcome) = monitor_recorded call call_state outcome.out

-- the reply of a call with this call state: that of its effect, if it is over
abbrev pub monitor_reply_at : Call → Stage → Option Effect → Option Reply
monitor_reply_at call Idle effect = option_map (reply_of call) effect
monitor_reply_at call stage effect = None

abbrev pub monitor_reply : Call → CallState → Option Reply
monitor_reply call call_state = monitor_reply_at call call_state.stage call_state.effect

-- what is under way on a CPU
abbrev pub passing_under : Option (SchedCall MonitorEdit) → Option UnderWay
passing_under None = None
passing_under (Some (Pass p)) = Some (Passing p)
passing_under (Some (OnBuffer b e)) = None

abbrev pub monitor_under : Option Tid → Option (SchedCall MonitorEdit) → Option UnderWay
monitor_under None under_way = passing_under under_way
monitor_under (Some t) under_way = Some (Calling t)

-- a call state agrees with its stage: a call that tries has had no effect, and one that wakes has
abbrev pub AgreesWithStage : Stage → Option Effect → Type 0
AgreesWithStage Idle effect = Unit {0}
AgreesWithStage Acquires effect = effect ≡ None
AgreesWithStage Signals effect = IsSome effect
AgreesWithStage SignalsOwn effect = IsSome effect
AgreesWithStage Enters effect = ⊥
AgreesWithStage Tries effect = ⊥
AgreesWithStage Waits effect = ⊥
AgreesWithStage AcquiresAgain effect = ⊥
AgreesWithStage Releases effect = ⊥

-- whether a result is that of a section that wakes
abbrev pub is_woke : MonitorReply → Bool
is_woke (Acted effect next) = false
is_woke (Refused side) = false
is_woke (Woke woke next) = true

-- an outcome is deferred only while its thread wakes another
abbrev pub Defers : Stage → Option (Outcome MonitorReply) → Option Tid → Type 0
Defers stage None hand = hand ≡ None
Defers stage (Some outcome) hand = (is_waking stage ≡ true) × (is_woke outcome.out ≡ true)

-- the section of a call may begin, or is under way
abbrev pub SectionFits : Tid → Call → Stage → Option (SchedCall MonitorEdit) → Sleeping MonitorReply
    → Type 0
SectionFits t call stage None local = (local.threads.hand ≡ None) × (local.deferred ≡ None)
SectionFits t call stage (Some (OnBuffer b e)) local =
    (b ≡ buffer_of call) × (e ≡ monitor_section t call stage)
    × Defers stage local.deferred local.threads.hand
SectionFits t call stage (Some (Pass p)) local = ⊥

-- the call of a thread is under way
pub record CallGoes (t : Tid) (under_way : Option (SchedCall MonitorEdit))
    (local : Sleeping MonitorReply) (call_state : CallState) : Type 0 where
  pub call : Call
  pub is : call_state.call ≡ Some call
  pub begun : call_state.stage ≢ Idle
  pub current : local.threads.current ≡ Some t
  pub section : SectionFits t call call_state.stage under_way local

-- no section of a monitor is under way
abbrev pub NoMonitorSection : Option (SchedCall MonitorEdit) → Type 0
NoMonitorSection None = Unit {0}
NoMonitorSection (Some (Pass p)) = Unit {0}
NoMonitorSection (Some (OnBuffer b e)) = ⊥

abbrev pub CallFits : Option Tid → Option (SchedCall MonitorEdit) → Sleeping MonitorReply
    → List CallState → Type 0
CallFits None under_way local call_states = NoMonitorSection under_way × (local.deferred ≡ None)
CallFits (Some t) under_way local call_states =
    CallGoes t under_way local (call_state_of call_states t)

-- the coupling invariant: a part of the monitors and its machine agree
pub record MonitorFits (opening : LockId → Option (QueueBlock MonitorLocked))
    (local : Sleeping MonitorReply) (call_states : List CallState)
    (under_way : Option (SchedCall MonitorEdit)) (calling : Option Tid) : Type 0 where
  pub fresh : OpensFresh opening
  pub slots : length call_states ≡ THREADS
  pub stages : (t : Tid) → AgreesWithStage (call_state_of call_states t).stage
      (call_state_of call_states t).effect
  pub calls : CallFits calling under_way local call_states

-- a part's private state, as the layer's trait shows it
abbrev pub monitor_own : Threads → List CallState → Buffering
monitor_own threads call_states = buffering (record {
  lock =
      record {
        sleep = record { threads = threads; deferred = None };
        slept = replicate THREADS None;
      };
  waits = replicate THREADS None;
}) call_states
