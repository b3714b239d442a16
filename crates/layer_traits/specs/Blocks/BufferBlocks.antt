-- A buffer's block: its two queues of threads, its items, whether it is closed, and its counters;
-- and what the edits make of it.
use Rattle.std.specs.Prelude.{ℕ, ◌+◌, ◌%◌, ◌^◌, Bool, true, false, not, ◌&&◌, ◌||◌, List, [], ◌∷◌}
use Rattle.std.specs.Prelude.{◌++◌, length, nat_lt, Option, None, if◌then◌else◌}
use Rattle.event_log.specs.declared.entries.Kind.{Kind, TheVariants.{Send, Recv, SendClosed}}
use Rattle.event_log.specs.declared.{entries.Kind.TheVariants.RecvClosed, ids.Tid.Tid}
use Rattle.event_log.specs.{declared.ids.TheConstants.THREADS, Messages.{Message, no_message}}
use Rattle.layer_traits.specs.declared.locked.Side.{Side, TheVariants.{Receivers, Senders}}
use Rattle.layer_traits.specs.declared.buffer_edits.BufferEdit.{BufferEdit, TheVariants.Enter}
use Rattle.layer_traits.specs.declared.buffer_edits.BufferEdit.TheVariants.{TryPut, TryTake, Shut}
use Rattle.layer_traits.specs.declared.buffer_edits.BufferReply.{BufferReply, TheVariants.Entered}
use Rattle.layer_traits.specs.declared.buffer_edits.BufferReply.TheVariants.{NotYet, Done, WasShut}
use Rattle.thread_blocks.specs.Queues.{same_tid, is_in, first, rest}

-- what a buffer's block holds: the queue of each side, first in front; the items, first in front;
-- the capacity; and whether it is closed. It also counts, modulo 2^64, its effects, the threads
-- that entered the send queue and the receive queue, and how often it was closed
pub record BufferState : Type 0 where
  pub receive_line : List Tid
  pub send_line : List Tid
  pub items : List Message
  pub capacity : ℕ
  pub effects : ℕ
  pub sends : ℕ
  pub receives : ℕ
  pub closed : Bool
  pub closes : ℕ

-- a counter of 64 bits, incremented
abbrev pub counted : ℕ → ℕ
counted n = (n + 1) % 2 ^ 64

-- the queue of a side
abbrev pub line_of : Side → BufferState → List Tid
line_of Receivers x = x.receive_line
line_of Senders x = x.send_line

-- how many threads entered it, modulo 2^64: the position of the next one
abbrev pub drawn_of : Side → BufferState → ℕ
drawn_of Receivers x = x.receives
drawn_of Senders x = x.sends

-- whether the thread is the first
abbrev pub is_first : Tid → List Tid → Bool
is_first t [] = false
is_first t (u ∷ queue) = same_tid t u

-- whether the thread may enter this queue: it is one that a machine may have, and is not in the
-- queue
abbrev pub may_join : Tid → List Tid → Bool
may_join t queue = nat_lt t.0 THREADS && not (is_in t queue)

-- whether the first of a side's queue may proceed: a sender if there is room, a receiver if there
-- is a message, and either if the buffer is closed
abbrev pub may_go : Side → BufferState → Bool
may_go Receivers x = x.closed || nat_lt 0 (length x.items)
may_go Senders x = x.closed || nat_lt (length x.items) x.capacity

-- the kind of the effect that the first of a side has if it proceeds: a sender puts nothing into a
-- closed buffer, a receiver first drains it
abbrev pub effect_kind : Side → BufferState → Kind
effect_kind Receivers x = if nat_lt 0 (length x.items) then Recv else RecvClosed
effect_kind Senders x = if x.closed then SendClosed else Send

-- whether it is this thread's turn: it is the first in the queue of its side, and may proceed
abbrev pub is_next : Side → Tid → BufferState → Bool
is_next side t x = is_first t (line_of side x) && may_go side x

-- the head of a side's queue, if it may proceed
abbrev pub front_ready : Side → BufferState → Option Tid
front_ready side x = if may_go side x then first (line_of side x) else None

-- the message in front, and those after it
abbrev pub first_item : List Message → Message
first_item [] = no_message
first_item (m ∷ items) = m

abbrev pub other_items : List Message → List Message
other_items [] = []
other_items (m ∷ items) = items

-- the thread has entered the queue of a side
abbrev pub entered : Side → Tid → BufferState → BufferState
entered Receivers t x =
    record x { receive_line = x.receive_line ++ t ∷ []; receives = counted x.receives }
entered Senders t x = record x { send_line = x.send_line ++ t ∷ []; sends = counted x.sends }

-- the items after a put of this message: a closed buffer takes none
abbrev pub items_put : Bool → Message → List Message → List Message
items_put true m items = items
items_put false m items = items ++ m ∷ []

-- the first sender has put this message, or its result is that the buffer is closed
abbrev pub put_in : Message → BufferState → BufferState
put_in m x =
    record x {
      send_line = rest x.send_line;
      items = items_put x.closed m x.items;
      effects = counted x.effects;
    }

-- the first receiver has taken the first message, or its result is that the buffer is closed, if
-- there is none
abbrev pub taken_out : BufferState → BufferState
taken_out x =
    record x {
      receive_line = rest x.receive_line;
      items = other_items x.items;
      effects = counted x.effects;
    }

-- the buffer has been closed
abbrev pub shut : BufferState → BufferState
shut x = record x { closed = true; effects = counted x.effects; closes = counted x.closes }

-- the thread that edits
abbrev pub thread_of_edit : BufferEdit → Tid
thread_of_edit (Enter t side) = t
thread_of_edit (TryPut t m) = t
thread_of_edit (TryTake t) = t
thread_of_edit (Shut t) = t

-- the block after an edit: a try out of turn leaves it unchanged
abbrev pub buffer_edited : BufferEdit → BufferState → BufferState
buffer_edited (Enter t side) x = if may_join t (line_of side x) then entered side t x else x
buffer_edited (TryPut t m) x = if is_next Senders t x then put_in m x else x
buffer_edited (TryTake t) x = if is_next Receivers t x then taken_out x else x
buffer_edited (Shut t) x = shut x

-- the result of an edit: the position drawn; the effect; that it is not the thread's turn yet; or
-- the numbers of the close
abbrev pub buffer_answer : BufferEdit → BufferState → BufferReply
buffer_answer (Enter t side) x = Entered (drawn_of side x)
buffer_answer (TryPut t m) x =
    if is_next Senders t x then Done (effect_kind Senders x) x.effects m else NotYet
buffer_answer (TryTake t) x =
    if is_next Receivers t x then Done (effect_kind Receivers x) x.effects (first_item x.items)
    else NotYet
buffer_answer (Shut t) x = WasShut x.effects x.closes

-- a buffer at the start
abbrev pub empty_block : ℕ → BufferState
empty_block capacity = record {
  receive_line = [];
  send_line = [];
  items = [];
  capacity = capacity;
  effects = 0;
  sends = 0;
  receives = 0;
  closed = false;
  closes = 0;
}
