-- What each section makes of the block that it finds, and its result.
use Rattle.std.specs.Prelude.{ℕ, Bool, true, false, ◌&&◌, ◌||◌, nat_lt, List, [], ◌∷◌, ◌++◌, length}
use Rattle.std.specs.Prelude.{Option, Some, None, if◌then◌else◌}
use Rattle.event_log.specs.{declared.ids.Tid.Tid, Messages.Message}
use Rattle.{thread_blocks.specs.Queues.without, layer_traits.specs.declared.locked.Side.Side}
use Rattle.layer_traits.specs.declared.locked.Side.TheVariants.{Receivers, Senders}
use Rattle.layer_traits.specs.{Polling.Plans.Table, Layers.Sleeping.joined}
use Rattle.layer_traits.specs.Blocks.BufferBlocks.{may_join, is_first, counted, items_put}
use Rattle.{layer_traits.specs.Blocks.BufferBlocks.other_items, cpu.specs.Table.Blocks.Buffer}
use Rattle.cpu.specs.Table.Blocks.{Block, OfBuffer, OfPending, Name, AcqQ, Enter, TryPut, TryTake}
use Rattle.cpu.specs.Table.Blocks.{Shut, WaitOn, SigRecv, SigSend, RelQ, Pend, TakeAll, Reported}
use Rattle.cpu.specs.Table.Blocks.{Nothing, Position, Done, WasClosed, DidShut, NotYet, Drained}
use Rattle.cpu.specs.Table.Blocks.{Answer, front, behind, front_stands_in}

-- there is room for one item more
abbrev pub has_room : Buffer → Bool
has_room k = nat_lt (length k.items) k.capacity

-- there is an item
abbrev pub has_items : Buffer → Bool
has_items k = nat_lt 0 (length k.items)

-- what belongs to a side, given the receivers' and the senders'
abbrev pub on_side : {A : Type 0} → Side → (receivers senders : A) → A
on_side Receivers receivers senders = receivers
on_side Senders receivers senders = senders

-- the line of a side, and the threads that wait on it
abbrev pub line_on : Side → Buffer → List Tid
line_on side k = on_side side k.receive_line k.send_line

abbrev pub waiting_of : Side → Buffer → List Tid
waiting_of side k = on_side side k.waiting_receivers k.waiting_senders

-- the first of a side's line can take effect; if the buffer is closed, by reporting that
abbrev pub front_may_go : Side → Buffer → Bool
front_may_go side k = k.closed || on_side side (has_items k) (has_room k)

-- whether a try of this thread takes effect: the thread is first in its line and can take effect
abbrev pub may_try : Side → Tid → Buffer → Bool
may_try side t k = is_first t (line_on side k) && front_may_go side k

-- the first of a line waits and can take effect: a signal to its side wakes it
abbrev pub is_due : Side → Buffer → Bool
is_due side k = front_stands_in (line_on side k) (waiting_of side k) && front_may_go side k

-- the thread that a signal wakes
abbrev pub due_on : Side → Buffer → Option Tid
due_on side k = if is_due side k then front (line_on side k) else None

-- the list without this thread, if there is one
abbrev pub without_any : Option Tid → List Tid → List Tid
without_any None list = list
without_any (Some t) list = without t list

-- t acquires the lock: if no thread owns it, t does; otherwise t sleeps among the sleepers
abbrev pub acquired : Tid → Option Tid → Buffer → Buffer
acquired t None k = record k { busy = Some t }
acquired t (Some owner) k = record k { sleepers = joined t k.sleepers }

-- t enters a line at its end, and its position is drawn
abbrev pub lined_up : Tid → Side → Buffer → Buffer
lined_up t Senders k =
    record k { send_line = k.send_line ++ t ∷ []; send_positions = counted k.send_positions }
lined_up t Receivers k =
    record k {
      receive_line = k.receive_line ++ t ∷ [];
      receive_positions = counted k.receive_positions;
    }

-- the position that is drawn next in a line
abbrev pub drawn_position : Side → Buffer → ℕ
drawn_position side k = on_side side k.receive_positions k.send_positions

-- the first of the send line has appended its message to the items, unless the buffer is closed,
-- and left the line
abbrev pub put : Message → Buffer → Buffer
put m k =
    record k {
      items = items_put k.closed m k.items;
      send_line = behind k.send_line;
      effects = counted k.effects;
    }

-- the first of the receive line has taken the first item, if there is one, and left the line
abbrev pub taken : Buffer → Buffer
taken k =
    record k {
      items = other_items k.items;
      receive_line = behind k.receive_line;
      effects = counted k.effects;
    }

-- the buffer is closed; its items stay
abbrev pub shut_off : Buffer → Buffer
shut_off k = record k { closed = true; effects = counted k.effects; closes = counted k.closes }

-- t waits among those of its side
abbrev pub waiting : Tid → Side → Buffer → Buffer
waiting t Senders k = record k { waiting_senders = joined t k.waiting_senders }
waiting t Receivers k = record k { waiting_receivers = joined t k.waiting_receivers }

-- the thread that a signal to a side woke no longer waits
abbrev pub signal_sent : Side → Buffer → Buffer
signal_sent Senders k =
    record k { waiting_senders = without_any (due_on Senders k) k.waiting_senders }
signal_sent Receivers k =
    record k { waiting_receivers = without_any (due_on Receivers k) k.waiting_receivers }

-- the lock passes to its first sleeper, or no thread owns it
abbrev pub released : Buffer → Buffer
released k = record k { busy = front k.sleepers; sleepers = behind k.sleepers }

-- what a section makes of a buffer
abbrev pub edited_buffer : Name → Buffer → Buffer
edited_buffer (AcqQ t) k = acquired t k.busy k
edited_buffer (Enter t side) k = if may_join t (line_on side k) then lined_up t side k else k
edited_buffer (TryPut t m) k = if may_try Senders t k then put m k else k
edited_buffer (TryTake t) k = if may_try Receivers t k then taken k else k
edited_buffer (Shut t) k = shut_off k
edited_buffer (WaitOn t side) k = released (waiting t side k)
edited_buffer (SigRecv t) k = signal_sent Receivers k
edited_buffer (SigSend t) k = signal_sent Senders k
edited_buffer (RelQ t) k = released k
edited_buffer (Pend s) k = k
edited_buffer TakeAll k = k

-- what a section makes of a queue of pending threads
abbrev pub edited_pending : Name → List Tid → List Tid
edited_pending (Pend s) threads = joined s threads
edited_pending TakeAll threads = []
edited_pending name threads = threads

-- what a section makes of a block
abbrev pub edited : Name → Block → Block
edited name (OfBuffer k) = OfBuffer (edited_buffer name k)
edited name (OfPending threads) = OfPending (edited_pending name threads)

-- a result that reports something, of a caller that continues
abbrev pub reports : Reported → Answer
reports told = record { told = told; slept = false; woke = None }

-- the result of a section whose caller sleeps next
abbrev pub sleeps : Option Tid → Answer
sleeps woke = record { told = Nothing; slept = true; woke = woke }

-- the result of a section that may wake a thread, of a caller that continues
abbrev pub wakes : Option Tid → Answer
wakes woke = record { told = Nothing; slept = false; woke = woke }

-- a thread that acquires a lock which is owned sleeps
abbrev pub answer_of_acquire : Option Tid → Answer
answer_of_acquire None = reports Nothing
answer_of_acquire (Some owner) = sleeps None

-- what a try that takes effect reports: a put finds the buffer closed or not, a take finds no item
-- only if the buffer is closed
abbrev pub report_of_put : Bool → ℕ → Message → Reported
report_of_put closed op m = if closed then WasClosed op else Done op m

abbrev pub report_of_take : List Message → ℕ → Reported
report_of_take [] op = WasClosed op
report_of_take (m ∷ items) op = Done op m

-- the result of a section on a buffer
abbrev pub answer_of_buffer : Name → Buffer → Answer
answer_of_buffer (AcqQ t) k = answer_of_acquire k.busy
answer_of_buffer (Enter t side) k = reports (Position (drawn_position side k))
answer_of_buffer (TryPut t m) k =
    reports (if may_try Senders t k then report_of_put k.closed k.effects m else NotYet)
answer_of_buffer (TryTake t) k =
    reports (if may_try Receivers t k then report_of_take k.items k.effects else NotYet)
answer_of_buffer (Shut t) k = reports (DidShut k.effects k.closes)
answer_of_buffer (WaitOn t side) k = sleeps (front k.sleepers)
answer_of_buffer (SigRecv t) k = wakes (due_on Receivers k)
answer_of_buffer (SigSend t) k = wakes (due_on Senders k)
answer_of_buffer (RelQ t) k = wakes (front k.sleepers)
answer_of_buffer (Pend s) k = reports Nothing
answer_of_buffer TakeAll k = reports Nothing

-- the result of a section on a queue of pending threads
abbrev pub answer_of_pending : Name → List Tid → Answer
answer_of_pending TakeAll threads = reports (Drained threads)
answer_of_pending name threads = reports Nothing

-- the result of a section
abbrev pub answer : Name → Block → Answer
answer name (OfBuffer k) = answer_of_buffer name k
answer name (OfPending threads) = answer_of_pending name threads

-- the edits and the results of the sections
abbrev pub table_kernel : Table Name Block Answer
table_kernel = record { edited = edited; answer = answer }
