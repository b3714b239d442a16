-- The objects of the step table: the blocks of the locks, the names of the sections, and what a
-- section returns.
use Rattle.std.specs.Prelude.{ℕ, Bool, false, List, [], ◌∷◌, Option, if◌then◌else◌}
use Rattle.event_log.specs.declared.{ids.Tid.Tid, entries.Kind.{Kind, TheVariants.Send as SendKind}}
use Rattle.event_log.specs.declared.entries.Kind.TheVariants.{Recv as RecvKind, Close as CloseKind}
use Rattle.event_log.specs.declared.entries.Kind.TheVariants.{SendClosed, RecvClosed}
use Rattle.event_log.specs.{Messages.Message, Runs.{Group, Sends, Receives, Closes}}
use Rattle.thread_blocks.specs.Queues.{is_in, first, rest}
use Rattle.layer_traits.specs.declared.locked.Side.{Side, TheVariants.{Receivers, Senders}}

-- What the lock of a buffer guards. The busy word names the thread that owns the lock, and the
-- sleepers wait for it. The waiting threads gave the lock up until they are woken. The two lines
-- (wait queues) hold the threads inside a call that has not taken effect, head first. Then follow
-- the items, head first, the capacity, whether the buffer is closed, and four counters: effects,
-- the positions drawn in each line, and closes.
pub record Buffer : Type 0 where
  pub busy : Option Tid
  pub sleepers : List Tid
  pub waiting_receivers : List Tid
  pub waiting_senders : List Tid
  pub receive_line : List Tid
  pub send_line : List Tid
  pub items : List Message
  pub capacity : ℕ
  pub closed : Bool
  pub effects : ℕ
  pub send_positions : ℕ
  pub receive_positions : ℕ
  pub closes : ℕ

-- what a lock guards: a buffer, or the queue of a CPU's pending threads
pub data Block : Type 0 where
  OfBuffer : (buffer : Buffer) → Block
  OfPending : (threads : List Tid) → Block

-- The sections. A caller t acquires the lock of a buffer, enters a line of it, tries to put or to
-- take, closes it, waits, signals the receivers or the senders, or releases the lock. A woken
-- thread s is appended to the pending threads of its home CPU; all pending threads are taken.
pub data Name : Type 0 where
  AcqQ : (t : Tid) → Name
  Enter : (t : Tid) (side : Side) → Name
  TryPut : (t : Tid) (message : Message) → Name
  TryTake : (t : Tid) → Name
  Shut : (t : Tid) → Name
  WaitOn : (t : Tid) (side : Side) → Name
  SigRecv : (t : Tid) → Name
  SigSend : (t : Tid) → Name
  RelQ : (t : Tid) → Name
  Pend : (s : Tid) → Name
  TakeAll : Name

-- the side of the buffer to which a call belongs; a close, which enters no line, signals as a send
-- does
abbrev pub side_of_group : Group → Side
side_of_group Sends = Senders
side_of_group Receives = Receivers
side_of_group Closes = Senders

-- the kind of the entry that a call writes, if it found its buffer closed or not
abbrev pub kind_for : Group → Bool → Kind
kind_for Sends closed = if closed then SendClosed else SendKind
kind_for Receives closed = if closed then RecvClosed else RecvKind
kind_for Closes closed = CloseKind

-- What a section reports to its caller. It is nothing, the caller's position in a line, or its
-- effect's number and message. If the section found the buffer closed, it is only the effect's
-- number; for a close it is the number and the position. Otherwise it is that the caller must wait,
-- or which threads were pending.
pub data Reported : Type 0 where
  Nothing : Reported
  Position : (pos : ℕ) → Reported
  Done : (op : ℕ) (message : Message) → Reported
  WasClosed : (op : ℕ) → Reported
  DidShut : (op pos : ℕ) → Reported
  NotYet : Reported
  Drained : (threads : List Tid) → Reported

-- the result of a section: what it reports, whether its caller sleeps next, and which thread it
-- woke
pub record Answer : Type 0 where
  pub told : Reported
  pub slept : Bool
  pub woke : Option Tid

-- the first of a list of threads, and the others
abbrev pub front : List Tid → Option Tid
front list = first list

abbrev pub behind : List Tid → List Tid
behind list = rest list

-- whether a thread is in a list
abbrev pub stands_in : Tid → List Tid → Bool
stands_in t list = is_in t list

-- whether the first of a line is in a list
abbrev pub front_stands_in : List Tid → List Tid → Bool
front_stands_in [] list = false
front_stands_in (t ∷ line) list = stands_in t list
