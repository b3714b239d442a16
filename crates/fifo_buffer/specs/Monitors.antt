-- A buffer under a monitor: a message call is one section of the buffer's lock. A caller takes
-- effect if no thread waits before it and the buffer allows it. Any other caller joins the end of
-- its side's line, and sleeps. The first of a line remains there until its own call takes effect,
-- also once it was woken, so that no newcomer passes it. A section with an effect wakes no thread.
-- It records to whom its thread now owes a wake-up, and another section wakes each of them.
use Rattle.std.specs.Prelude.{ℕ, Bool, true, false, ◌&&◌, List, [], ◌∷◌, Option, Some, None}
use Rattle.std.specs.Prelude.{is_some, if◌then◌else◌}
use Rattle.event_log.specs.{declared.ids.Tid.Tid, Messages.{Message, no_message}}
use Rattle.layer_traits.specs.declared.{calls.Effect.Effect, locked.Side.Side}
use Rattle.layer_traits.specs.declared.locked.Side.TheVariants.{Receivers, Senders}
use Rattle.layer_traits.specs.declared.{moves.WaitList.WaitList, sleeps.Wake.Wake}
use Rattle.layer_traits.specs.Blocks.BufferBlocks.{BufferState, counted, effect_kind, first_item}
use Rattle.layer_traits.specs.Blocks.BufferBlocks.{items_put, may_go, other_items}
use Rattle.layer_traits.specs.Layers.{QLocking.wait_list_for, Sleeping.{SleepRules, joined}}
use Rattle.thread_blocks.specs.Queues.{first, rest, same_tid}
use Rattle.fifo_buffer.specs.declared.monitor_blocks.Front.{Front, TheVariants.{Asleep, Owed}}
use Rattle.fifo_buffer.specs.declared.monitor_blocks.Front.TheVariants.{Awake}
use Rattle.fifo_buffer.specs.declared.monitor_blocks.MonitorAsk.{MonitorAsk}
use Rattle.fifo_buffer.specs.declared.monitor_blocks.MonitorEdit.{MonitorEdit}
use Rattle.fifo_buffer.specs.declared.monitor_blocks.MonitorReply.{MonitorReply, TheVariants.Acted}
use Rattle.fifo_buffer.specs.declared.monitor_blocks.MonitorReply.TheVariants.{Refused, Woke}
use Rattle.event_log.specs.declared.entries.Kind.TheVariants as kind
use Rattle.fifo_buffer.specs.declared.monitor_blocks.MonitorAsk.TheVariants as ask
use Rattle.layer_traits.specs.declared.sleeps.Wake.TheVariants as leave

-- a monitor's block: the line of each side, first in front, and the status of its first; the items,
-- first in front; the capacity; and whether it is closed. It also counts, modulo 2^64, its effects,
-- and those of each kind of call
pub record MonitorState : Type 0 where
  pub receive_line : List Tid
  pub send_line : List Tid
  pub first_receiver : Front
  pub first_sender : Front
  pub items : List Message
  pub capacity : ℕ
  pub effects : ℕ
  pub sends : ℕ
  pub receives : ℕ
  pub closed : Bool
  pub closes : ℕ

-- a monitor at the start
abbrev pub empty_monitor : ℕ → MonitorState
empty_monitor capacity = record {
  receive_line = [];
  send_line = [];
  first_receiver = Asleep;
  first_sender = Asleep;
  items = [];
  capacity = capacity;
  effects = 0;
  sends = 0;
  receives = 0;
  closed = false;
  closes = 0;
}

-- the buffer itself, without the threads that wait at it
abbrev pub buffer_alone : MonitorState → BufferState
buffer_alone x = record {
  receive_line = [];
  send_line = [];
  items = x.items;
  capacity = x.capacity;
  effects = x.effects;
  sends = x.sends;
  receives = x.receives;
  closed = x.closed;
  closes = x.closes;
}

-- the other side
abbrev pub opposite : Side → Side
opposite Receivers = Senders
opposite Senders = Receivers

-- the line of a side, and the status of its first
abbrev pub monitor_line : Side → MonitorState → List Tid
monitor_line Receivers x = x.receive_line
monitor_line Senders x = x.send_line

abbrev pub front_of : Side → MonitorState → Front
front_of Receivers x = x.first_receiver
front_of Senders x = x.first_sender

-- no thread waits before this one: the line is empty, or the thread is its first
abbrev pub is_at_head : Tid → List Tid → Bool
is_at_head t [] = true
is_at_head t (u ∷ queue) = same_tid t u

-- a call of this side has its effect now: it is the thread's turn, and the buffer allows it
abbrev pub goes_now : Tid → Side → MonitorState → Bool
goes_now t side x = is_at_head t (monitor_line side x) && may_go side (buffer_alone x)

-- the thread waits at the end of a side's line, if it is not in it yet
abbrev pub front_joined : Bool → Front → Front
front_joined true front = Asleep
front_joined false front = front

abbrev pub waiting_at : Tid → Side → MonitorState → MonitorState
waiting_at t Receivers x =
    record x {
      receive_line = joined t x.receive_line;
      first_receiver = front_joined (is_at_head t x.receive_line) x.first_receiver;
    }
waiting_at t Senders x =
    record x {
      send_line = joined t x.send_line;
      first_sender = front_joined (is_at_head t x.send_line) x.first_sender;
    }

-- the status of the first of a line after an effect of this thread: if it sleeps and its call is
-- allowed, the thread owes it a wake-up
abbrev pub owed_by : Tid → Bool → Front → Front
owed_by t true Asleep = Owed t
owed_by t false Asleep = Asleep
owed_by t may (Owed u) = Owed u
owed_by t may Awake = Awake

abbrev pub owed_in : Tid → Side → MonitorState → Front
owed_in t side x =
    owed_by t (is_some (first (monitor_line side x)) && may_go side (buffer_alone x))
    (front_of side x)

abbrev pub owing : Tid → MonitorState → MonitorState
owing t x = record x { first_receiver = owed_in t Receivers x; first_sender = owed_in t Senders x }

-- whether this thread owes that wake-up
abbrev pub is_owed_by : Tid → Front → Bool
is_owed_by t Asleep = false
is_owed_by t (Owed u) = same_tid t u
is_owed_by t Awake = false

-- the side whose first the thread owes a wake-up, of these two the first one before the second
abbrev pub owed_next : Tid → Side → MonitorState → Option Side
owed_next t side x =
    if is_owed_by t (front_of side x)
    then Some side
    else if is_owed_by t (front_of (opposite side) x) then Some (opposite side) else None

-- the effect of a call
abbrev pub send_effect : Message → MonitorState → Effect
send_effect m x =
    record { kind = effect_kind Senders (buffer_alone x); value = m; op = x.effects; pos = x.sends }

abbrev pub receive_effect : MonitorState → Effect
receive_effect x =
    record {
      kind = effect_kind Receivers (buffer_alone x);
      value = first_item x.items;
      op = x.effects;
      pos = x.receives;
    }

abbrev pub close_effect : MonitorState → Effect
close_effect x = record { kind = kind.Close; value = no_message; op = x.effects; pos = x.closes }

-- the block after an effect: its caller has left the line of its side, whose first is then another
abbrev pub monitor_sent : Message → MonitorState → MonitorState
monitor_sent m x = record x {
  send_line = rest x.send_line;
  first_sender = Asleep;
  items = items_put x.closed m x.items;
  effects = counted x.effects;
  sends = counted x.sends;
}

abbrev pub received : MonitorState → MonitorState
received x = record x {
  receive_line = rest x.receive_line;
  first_receiver = Asleep;
  items = other_items x.items;
  effects = counted x.effects;
  receives = counted x.receives;
}

abbrev pub closed_now : MonitorState → MonitorState
closed_now x = record x { effects = counted x.effects; closed = true; closes = counted x.closes }

-- a wake-up that is owed
abbrev pub is_owed : Front → Bool
is_owed Asleep = false
is_owed (Owed u) = true
is_owed Awake = false

-- the first of a side, if it is owed a wake-up
abbrev pub owed_first : Side → MonitorState → Option Tid
owed_first side x = if is_owed (front_of side x) then first (monitor_line side x) else None

abbrev pub front_woken : Front → Front
front_woken Asleep = Asleep
front_woken (Owed u) = Awake
front_woken Awake = Awake

-- the block after the first of a side was woken, if it was owed that
abbrev pub first_woken : Side → MonitorState → MonitorState
first_woken Receivers x = record x { first_receiver = front_woken x.first_receiver }
first_woken Senders x = record x { first_sender = front_woken x.first_sender }

-- the thread that leaves a waiting list, if this one of a side is woken
abbrev pub leaving_of : Side → Option Tid → Wake
leaving_of side None = leave.Nobody
leaving_of Receivers (Some t) = leave.Receiver t
leaving_of Senders (Some t) = leave.Sender t

-- the block after a section. A close owes its wake-ups as an effect of a send does
abbrev pub monitor_edited_by : Tid → MonitorAsk → MonitorState → MonitorState
monitor_edited_by t (ask.Send m) x =
    if goes_now t Senders x then owing t (monitor_sent m x) else waiting_at t Senders x
monitor_edited_by t ask.Receive x =
    if goes_now t Receivers x then owing t (received x) else waiting_at t Receivers x
monitor_edited_by t ask.Close x = owing t (closed_now x)
monitor_edited_by t (ask.WakeFirst side) x = first_woken side x

-- the result of a section: its effect, and whom its thread owes a wake-up then; or that the thread
-- waits on this side; or whom it woke, and whom it still owes
abbrev pub monitor_told_by : Tid → MonitorAsk → MonitorState → MonitorReply
monitor_told_by t (ask.Send m) x =
    if goes_now t Senders x
    then Acted (send_effect m x) (owed_next t Receivers (owing t (monitor_sent m x)))
    else Refused Senders
monitor_told_by t ask.Receive x =
    if goes_now t Receivers x
    then Acted (receive_effect x) (owed_next t Senders (owing t (received x)))
    else Refused Receivers
monitor_told_by t ask.Close x =
    Acted (close_effect x) (owed_next t Receivers (owing t (closed_now x)))
monitor_told_by t (ask.WakeFirst side) x =
    Woke (leaving_of side (owed_first side x)) (owed_next t (opposite side) (first_woken side x))

-- which list its caller joins
abbrev pub monitor_joins : MonitorReply → Option WaitList
monitor_joins (Acted effect next) = None
monitor_joins (Refused side) = wait_list_for (Some side)
monitor_joins (Woke woke next) = None

-- the thread that leaves one
abbrev pub monitor_leaves : MonitorReply → Wake
monitor_leaves (Acted effect next) = leave.Nobody
monitor_leaves (Refused side) = leave.Nobody
monitor_leaves (Woke woke next) = woke

-- the effect of a section with this result, if it had one
abbrev pub monitor_effect : MonitorReply → Option Effect
monitor_effect (Acted effect next) = Some effect
monitor_effect (Refused side) = None
monitor_effect (Woke woke next) = None

-- the side whose first its thread owes a wake-up after it
abbrev pub owed_after : MonitorReply → Option Side
owed_after (Acted effect next) = next
owed_after (Refused side) = None
owed_after (Woke woke next) = next

-- a thread that owes a first a wake-up, if there is one
abbrev pub debtor : Front → Front → Option Tid
debtor (Owed t) front = Some t
debtor Asleep (Owed t) = Some t
debtor Asleep Asleep = None
debtor Asleep Awake = None
debtor Awake (Owed t) = Some t
debtor Awake Asleep = None
debtor Awake Awake = None

abbrev pub debtor_of : MonitorState → Option Tid
debtor_of x = debtor x.first_receiver x.first_sender

-- what the sections of a monitor mean
abbrev pub monitor_rules : SleepRules MonitorEdit MonitorState MonitorReply
monitor_rules = record {
  caller = λ e. e.thread;
  edited = λ e front x. monitor_edited_by e.thread e.ask x;
  answer = λ e front x. monitor_told_by e.thread e.ask x;
  joins = monitor_joins;
  leaves = monitor_leaves;
  allowed = λ opening past s. Unit {0};
}
