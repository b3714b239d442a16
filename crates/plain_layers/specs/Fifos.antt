-- Buffers with one section a call: which section a call is, what it leaves, and what a machine of
-- such sections shows.
use Rattle.std.specs.Prelude.{◌≡◌, ◌≢◌, ℕ, ◌<◌, List, [], ◌∷◌, ◌++◌, length, Option, Some, None}
use Rattle.std.specs.Prelude.{option_map, option_to_list, replicate, slice_get}
use Rattle.event_log.specs.declared.{entries.Entry.Entry, ids.{BufId.BufId, CpuId.CpuId}}
use Rattle.event_log.specs.declared.ids.{LockId.{LockId, TheVariants.{Pending, Buffer}}, Tid.Tid}
use Rattle.event_log.specs.{declared.ids.TheConstants.{CPUS, THREADS}, Sections.Section}
use Rattle.{event_log.specs.Sections.block_after, layer_traits.specs.declared.calls.Call.Call}
use Rattle.layer_traits.specs.declared.calls.{Call.TheVariants.{Send, Recv, Close}, Effect.Effect}
use Rattle.layer_traits.specs.declared.{calls.Reply.Reply, queue_edits.QueueBlock.QueueBlock}
use Rattle.layer_traits.specs.declared.{moves.WaitList.WaitList, scheds.SchedCall.SchedCall}
use Rattle.layer_traits.specs.declared.call_states.Stage.TheVariants.{Idle, Waits}
use Rattle.layer_traits.specs.{declared.call_states.CallState.CallState, Layers.BufferLaw.Buffering}
use Rattle.layer_traits.specs.Layers.BufferLaw.{buffering, entry_of, reply_of, call_state_of}
use Rattle.layer_traits.specs.Layers.Sleeping.{SleepState, wait_list_at, sleep_edited}
use Rattle.layer_traits.specs.{Layers.SleepLaw.Sleeping, Blocks.BufferProtocol.BufferLock}
use Rattle.layer_traits.specs.Blocks.{Capacities.caps_in, QueueBlocks.inner}
use Rattle.layer_traits.specs.{Threads.Places.Threads, Views.Renaming.viewed}
use Rattle.plain_layers.specs.declared.attempts.{Ask.Ask, Attempt.Attempt, Tried.Tried}
use Rattle.plain_layers.specs.Attempts.{PlainState, attempts, effect_in, plain_empty_buffer}
use Rattle.plain_layers.specs.Attempts.{attempt_told}
use Rattle.plain_layers.specs.declared.attempts.Ask.TheVariants as ask

-- a buffer with the wait lists of its lock
abbrev pub PlainLocked : Type 0
PlainLocked = SleepState PlainState

-- what a call asks of its buffer
abbrev pub ask_of : Call → Ask
ask_of (Send b m) = ask.Send m
ask_of (Recv b) = ask.Receive
ask_of (Close b) = ask.Close

-- the section of a call
abbrev pub attempt_of : Tid → Call → Attempt
attempt_of t call = record { thread = t; ask = ask_of call }

-- the call state of a thread after its section: in no call with its effect, or it waits
abbrev pub call_state_after : Call → Option Effect → CallState
call_state_after call None = record { stage = Waits; call = Some call; position = 0; effect = None }
call_state_after call (Some f) = record { stage = Idle; call = None; position = 0; effect = Some f }

-- the reply of a call after this effect, or none
abbrev pub reply_to : Call → Option Effect → Option Reply
reply_to call effect = option_map (reply_of call) effect

-- a lock after these sections
abbrev pub locked_after : (LockId → Option PlainLocked) → LockId → List (Section Attempt)
    → Option PlainLocked
locked_after opening lock past = block_after (sleep_edited attempts) opening lock past

-- the effect of an attempt at a buffer, if the buffer allows one
abbrev pub effect_by : Attempt → Option PlainLocked → Option Effect
effect_by a None = None
effect_by a (Some state) = effect_in (attempt_told a state.above)

-- the entry of a section at a lock
abbrev pub entry_at : CpuId → LockId → Attempt → Option PlainLocked → Option Entry
entry_at c (Pending d) a state = None
entry_at c (Buffer b) a state = option_map (entry_of c a.thread b) (effect_by a state)

-- the effects of these sections
abbrev pub plain_entries_in : (LockId → Option PlainLocked) → List (Section Attempt) → List Entry
plain_entries_in opening [] = []
plain_entries_in opening (s ∷ past) =
    option_to_list (entry_at s.cpu s.lock s.edit (locked_after opening s.lock past))
    ++ plain_entries_in opening past

-- a buffer with room for so many items, at which no thread waits
abbrev pub fresh_buffer : ℕ → PlainLocked
fresh_buffer capacity =
    record { sleepers = []; receivers = []; senders = []; above = plain_empty_buffer capacity }

-- the buffers of these capacities
abbrev pub fresh_buffers : List ℕ → LockId → Option PlainLocked
fresh_buffers caps (Pending d) = None
fresh_buffers caps (Buffer b) = option_map fresh_buffer (slice_get caps b.0)

-- the threads that wait at a buffer
abbrev pub wait_lists_in : (LockId → Option PlainLocked) → List (Section Attempt) → BufId → WaitList
    → List Tid
wait_lists_in opening past b line = wait_list_at line (locked_after opening (Buffer b) past)

-- a buffer as the layer's trait shows it: its lock has no owner, and the lines of the block are
-- empty
abbrev pub plain_shown : PlainLocked → BufferLock
plain_shown state = record {
  owner = None;
  sleepers = state.sleepers;
  receivers = state.receivers;
  senders = state.senders;
  above = record {
    receive_line = [];
    send_line = [];
    items = state.above.items;
    capacity = state.above.capacity;
    closed = state.above.closed;
    effects = state.above.effects;
    sends = state.above.sends;
    receives = state.above.receives;
    closes = state.above.closes;
  };
}

-- the machine has one holder for all CPUs, and opened with fresh buffers
pub record IsOwned (ActsFor : CpuId → Type 0)
    (opening : LockId → Option (QueueBlock PlainLocked)) : Type 0 where
  pub all : (c : CpuId) → c.0 < CPUS → ActsFor c
  pub fresh : inner opening ≡ fresh_buffers (caps_in (viewed plain_shown opening))

-- between its polls a part has nothing begun; and a thread has an effect only after its call is
-- over
pub record RestsBetweenPolls (under : Option (SchedCall Attempt)) (local : Sleeping Tried)
    (call_states : List CallState) : Type 0 where
  pub none : under ≡ None
  pub deferred : local.deferred ≡ None
  pub waits : (t : Tid) → (call_state_of call_states t).stage ≢ Idle
      → (call_state_of call_states t).effect ≡ None
  pub slots : length call_states ≡ THREADS

-- a part's private state, as the layer's trait shows it
abbrev pub plain_own_of : Threads → List CallState → Buffering
plain_own_of threads call_states = buffering (record {
  lock =
      record {
        sleep = record { threads = threads; deferred = None };
        slept = replicate THREADS None;
      };
  waits = replicate THREADS None;
}) call_states
