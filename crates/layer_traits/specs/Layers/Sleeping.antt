-- The waiting lists of a lock, and what a section makes of them: which thread leaves one, and which
-- its caller joins.
use Rattle.std.specs.Prelude.{◌≡◌, ◌<◌, not, ◌&&◌, nat_lt, List, [], ◌∷◌, ◌++◌, Option, Some, None}
use Rattle.std.specs.Prelude.{is_some, if◌then◌else◌}
use Rattle.event_log.specs.declared.ids.{LockId.LockId, TheConstants.THREADS, Tid.Tid}
use Rattle.{event_log.specs.Sections.Section, layer_traits.specs.declared.moves.WaitList.WaitList}
use Rattle.layer_traits.specs.declared.moves.WaitList.TheVariants.{Sleepers, Receivers, Senders}
use Rattle.layer_traits.specs.declared.sleeps.Wake.{Wake, TheVariants.{Nobody, FirstSleeper}}
use Rattle.layer_traits.specs.declared.sleeps.{Wake.TheVariants.{Receiver, Sender}, Outcome.Outcome}
use Rattle.layer_traits.specs.Threads.MoveRules.{MoveRules, section_moves, asleep_by}
use Rattle.{layer_traits.specs.Protocols.Protocol.Rules, thread_blocks.specs.Queues.{is_in, first}}
use Rattle.thread_blocks.specs.Queues.{rest, without}

-- the block of a lock with its waiting lists, each with its first in front
pub record SleepState (B : Type 0) : Type 0 where
  pub sleepers : List Tid
  pub receivers : List Tid
  pub senders : List Tid
  pub above : B

-- what an edit means: its caller; the block above that it leaves and its result, which also depend
-- on the lock's first sleeper. According to the result, which list its caller joins and which
-- thread leaves one. After which sections which CPU may do it
pub record SleepRules (E B O : Type 0) : Type 1 where
  pub caller : E → Tid
  pub edited : E → Option Tid → B → B
  pub answer : E → Option Tid → B → O
  pub joins : O → Option WaitList
  pub leaves : O → Wake
  pub allowed : (LockId → Option (SleepState B)) → List (Section E) → Section E → Type 0

-- a list that a thread joins at its end: a thread of the machine that is not in it yet
abbrev pub joined : Tid → List Tid → List Tid
joined t queue = if nat_lt t.0 THREADS && not (is_in t queue) then queue ++ t ∷ [] else queue

-- this waiting list, if a caller joins that one
abbrev pub wait_list_joined : WaitList → Option WaitList → Tid → List Tid → List Tid
wait_list_joined Sleepers (Some Sleepers) t queue = joined t queue
wait_list_joined Receivers (Some Receivers) t queue = joined t queue
wait_list_joined Senders (Some Senders) t queue = joined t queue
wait_list_joined Sleepers (Some Receivers) t queue = queue
wait_list_joined Sleepers (Some Senders) t queue = queue
wait_list_joined Receivers (Some Sleepers) t queue = queue
wait_list_joined Receivers (Some Senders) t queue = queue
wait_list_joined Senders (Some Sleepers) t queue = queue
wait_list_joined Senders (Some Receivers) t queue = queue
wait_list_joined Sleepers None t queue = queue
wait_list_joined Receivers None t queue = queue
wait_list_joined Senders None t queue = queue

-- this waiting list, after the thread that leaves
abbrev pub left : WaitList → Wake → List Tid → List Tid
left Sleepers FirstSleeper queue = rest queue
left Receivers (Receiver u) queue = without u queue
left Senders (Sender u) queue = without u queue
left Sleepers Nobody queue = queue
left Sleepers (Receiver u) queue = queue
left Sleepers (Sender u) queue = queue
left Receivers Nobody queue = queue
left Receivers FirstSleeper queue = queue
left Receivers (Sender u) queue = queue
left Senders Nobody queue = queue
left Senders FirstSleeper queue = queue
left Senders (Receiver u) queue = queue

-- which of these sleepers, receivers and senders this wakes
abbrev pub woken_by : Wake → List Tid → List Tid → List Tid → Option Tid
woken_by Nobody sleepers receivers senders = None
woken_by FirstSleeper sleepers receivers senders = first sleepers
woken_by (Receiver u) sleepers receivers senders = if is_in u receivers then Some u else None
woken_by (Sender u) sleepers receivers senders = if is_in u senders then Some u else None

-- this waiting list
abbrev pub wait_list_of : {B : Type 0} → WaitList → SleepState B → List Tid
wait_list_of Sleepers state = state.sleepers
wait_list_of Receivers state = state.receivers
wait_list_of Senders state = state.senders

-- this waiting list of a lock; empty if there is no such lock
abbrev pub wait_list_at : {B : Type 0} → WaitList → Option (SleepState B) → List Tid
wait_list_at line None = []
wait_list_at line (Some state) = wait_list_of line state

module _ {E B O : Type 0} (protocol : SleepRules E B O) where
  -- the result of the edit above
  abbrev pub answer_above : E → SleepState B → O
  answer_above e state = protocol.answer e (first state.sleepers) state.above

  -- this waiting list after a section: the thread that leaves has left, and then the caller joins
  abbrev pub wait_list_after : WaitList → E → SleepState B → List Tid → List Tid
  wait_list_after line e state queue =
      wait_list_joined line (protocol.joins (answer_above e state)) (protocol.caller e)
      (left line (protocol.leaves (answer_above e state)) queue)

  -- the block that a section leaves
  abbrev pub sleep_edited : E → SleepState B → SleepState B
  sleep_edited e state = record {
    sleepers = wait_list_after Sleepers e state state.sleepers;
    receivers = wait_list_after Receivers e state state.receivers;
    senders = wait_list_after Senders e state state.senders;
    above = protocol.edited e (first state.sleepers) state.above;
  }

  -- which thread a section wakes
  abbrev pub sleep_woke : E → SleepState B → Option Tid
  sleep_woke e state =
      woken_by (protocol.leaves (answer_above e state)) state.sleepers state.receivers state.senders

  -- a section's outcome
  abbrev pub sleep_answer : E → SleepState B → Outcome O
  sleep_answer e state = record {
    out = answer_above e state;
    slept = is_some (protocol.joins (answer_above e state));
    woke = sleep_woke e state;
  }

  -- what the sections of a sleeping layer mean
  abbrev pub sleep_rules : Rules E (SleepState B) (Outcome O)
  sleep_rules = record { edited = sleep_edited; answer = sleep_answer; allowed = protocol.allowed }

  -- how they move threads
  abbrev pub sleep_moves : MoveRules E (Outcome O)
  sleep_moves =
      record {
        caller = protocol.caller;
        slept = λ outcome. protocol.joins outcome.out;
        woke = λ outcome. outcome.woke;
      }

-- no lock's waiting lists hold a thread
abbrev pub NoSleepers : {B : Type 0} → (LockId → Option (SleepState B)) → Type 0
NoSleepers opening = (lock : LockId) (line : WaitList) → wait_list_at line (opening lock) ≡ []

-- the caller of a section is a thread of the machine and does not sleep after these sections
pub record IsAwake {E B O : Type 0} (protocol : SleepRules E B O)
    (opening : LockId → Option (SleepState B))
    (past : List (Section E)) (s : Section E) : Type 0 where
  pub awake : asleep_by (section_moves (sleep_rules protocol) (sleep_moves protocol) opening past)
      (protocol.caller s.edit) ≡ None
  pub small : (protocol.caller s.edit).0 < THREADS
