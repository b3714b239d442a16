-- A message call as one section on its buffer. A call that the buffer allows takes effect and wakes
-- at most one thread; any other waits on its own side. A close cannot wake both sides at once, so
-- the waiters of a closed buffer are released one after the other: a close wakes the first of them,
-- and each that is released wakes the next.
use Rattle.std.specs.Prelude.{ℕ, Bool, true, false, ◌&&◌, ◌||◌, List, [], length, nat_lt, Option}
use Rattle.std.specs.Prelude.{Some, None, is_some, if◌then◌else◌}
use Rattle.event_log.specs.{declared.ids.Tid.Tid, Messages.{Message, no_message}}
use Rattle.thread_blocks.specs.Queues.{first, rest}
use Rattle.layer_traits.specs.declared.{calls.Effect.Effect, locked.Side.Side}
use Rattle.layer_traits.specs.declared.locked.Side.TheVariants.{Receivers, Senders}
use Rattle.layer_traits.specs.declared.{moves.WaitList.WaitList, sleeps.Wake.Wake}
use Rattle.layer_traits.specs.Blocks.BufferBlocks.{counted, first_item, items_put, other_items}
use Rattle.layer_traits.specs.Layers.{QLocking.wait_list_for, Sleeping.{SleepRules, joined}}
use Rattle.plain_layers.specs.declared.attempts.Ask.{Ask, TheVariants.{Send, Receive, Close}}
use Rattle.plain_layers.specs.declared.attempts.{Attempt.Attempt, Tried.{Tried, TheVariants.Acted}}
use Rattle.plain_layers.specs.declared.attempts.Tried.TheVariants.{Refused}
use Rattle.event_log.specs.declared.entries.Kind.TheVariants as kind
use Rattle.layer_traits.specs.declared.sleeps.Wake.TheVariants as leave

-- a buffer: its items, head first; its capacity; whether it is closed; how many effects, sends,
-- receives and closes it had, modulo 2^64; and the threads that wait at it, head first
pub record PlainState : Type 0 where
  pub items : List Message
  pub capacity : ℕ
  pub closed : Bool
  pub effects : ℕ
  pub sends : ℕ
  pub receives : ℕ
  pub closes : ℕ
  pub receivers : List Tid
  pub senders : List Tid

-- a buffer at the start
abbrev pub plain_empty_buffer : ℕ → PlainState
plain_empty_buffer capacity = record {
  items = [];
  capacity = capacity;
  closed = false;
  effects = 0;
  sends = 0;
  receives = 0;
  closes = 0;
  receivers = [];
  senders = [];
}

-- the threads that wait on this side
abbrev pub waiting_on : Side → PlainState → List Tid
waiting_on Receivers x = x.receivers
waiting_on Senders x = x.senders

-- the side of a call; a close has that of the receivers, which it wakes first
abbrev pub attempt_side : Ask → Side
attempt_side (Send m) = Senders
attempt_side Receive = Receivers
attempt_side Close = Receivers

abbrev pub far_side : Side → Side
far_side Receivers = Senders
far_side Senders = Receivers

-- whether a call may take effect: a send if there is room, a receive if there is an item, both if
-- the buffer is closed; a close always
abbrev pub allows : Ask → PlainState → Bool
allows (Send m) x = x.closed || nat_lt (length x.items) x.capacity
allows Receive x = x.closed || nat_lt 0 (length x.items)
allows Close x = true

-- the effect of a call
abbrev pub attempt_effect : Ask → PlainState → Effect
attempt_effect (Send m) x =
    record {
      kind = if x.closed then kind.SendClosed else kind.Send;
      value = m;
      op = x.effects;
      pos = x.sends;
    }
attempt_effect Receive x =
    record {
      kind = if nat_lt 0 (length x.items) then kind.Recv else kind.RecvClosed;
      value = first_item x.items;
      op = x.effects;
      pos = x.receives;
    }
attempt_effect Close x =
    record { kind = kind.Close; value = no_message; op = x.effects; pos = x.closes }

-- whether the buffer is closed after it
abbrev pub closed_after : Ask → PlainState → Bool
closed_after (Send m) x = x.closed
closed_after Receive x = x.closed
closed_after Close x = true

-- The side of which an effect wakes the first thread, if one waits there. It is the other side; if
-- the buffer is closed, its own side as long as a thread waits on that.
abbrev pub waking_by : Bool → Side → PlainState → Side
waking_by closed local x =
    if closed && is_some (first (waiting_on local x)) then local else far_side local

abbrev pub waking : Ask → PlainState → Side
waking ask x = waking_by (closed_after ask x) (attempt_side ask) x

-- the thread that leaves, if this one of a side is woken
abbrev pub leaving_side : Side → Option Tid → Wake
leaving_side side None = leave.Nobody
leaving_side Receivers (Some t) = leave.Receiver t
leaving_side Senders (Some t) = leave.Sender t

-- the thread that the effect of a call wakes
abbrev pub attempt_wakes : Ask → PlainState → Wake
attempt_wakes ask x = leaving_side (waking ask x) (first (waiting_on (waking ask x) x))

-- the threads that wait on a side after the first of a side was woken
abbrev pub wait_list_left : Side → Side → List Tid → List Tid
wait_list_left Receivers Receivers queue = rest queue
wait_list_left Receivers Senders queue = queue
wait_list_left Senders Receivers queue = queue
wait_list_left Senders Senders queue = rest queue

-- the buffer after the first of this side was woken
abbrev pub attempt_woken : Side → PlainState → PlainState
attempt_woken side x =
    record x {
      receivers = wait_list_left Receivers side x.receivers;
      senders = wait_list_left Senders side x.senders;
    }

-- the buffer after the effect of a call
abbrev pub done : Ask → PlainState → PlainState
done (Send m) x =
    record (attempt_woken (waking (Send m) x) x) {
      items = items_put x.closed m x.items;
      effects = counted x.effects;
      sends = counted x.sends;
    }
done Receive x =
    record (attempt_woken (waking Receive x) x) {
      items = other_items x.items;
      effects = counted x.effects;
      receives = counted x.receives;
    }
done Close x =
    record (attempt_woken (waking Close x) x) {
      closed = true;
      effects = counted x.effects;
      closes = counted x.closes;
    }

-- the buffer after this thread joined the waiters of a side
abbrev pub with_waiter : Tid → Side → PlainState → PlainState
with_waiter t Senders x = record x { senders = joined t x.senders }
with_waiter t Receivers x = record x { receivers = joined t x.receivers }

-- the buffer after an attempt
abbrev pub attempted : Attempt → PlainState → PlainState
attempted a x = if allows a.ask x then done a.ask x else with_waiter a.thread (attempt_side a.ask) x

-- the result of an attempt
abbrev pub attempt_told : Attempt → PlainState → Tried
attempt_told a x =
    if allows a.ask x then Acted (attempt_effect a.ask x) (attempt_wakes a.ask x)
    else Refused (attempt_side a.ask)

-- the effect of an attempt with this result, if it had one
abbrev pub effect_in : Tried → Option Effect
effect_in (Acted effect woke) = Some effect
effect_in (Refused side) = None

-- which list its caller joins
abbrev pub wait_list_by : Tried → Option WaitList
wait_list_by (Acted effect woke) = None
wait_list_by (Refused side) = wait_list_for (Some side)

-- the thread that leaves one
abbrev pub attempt_left_by : Tried → Wake
attempt_left_by (Acted effect woke) = woke
attempt_left_by (Refused side) = leave.Nobody

-- attempts as sections that put to sleep and wake
abbrev pub attempts : SleepRules Attempt PlainState Tried
attempts = record {
  caller = λ a. a.thread;
  edited = λ a front x. attempted a x;
  answer = λ a front x. attempt_told a x;
  joins = wait_list_by;
  leaves = attempt_left_by;
  allowed = λ opening past s. Unit {0};
}
