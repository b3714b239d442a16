-- A section's edit with the waiting lists of its lock, as an edit of what the lock guards.
use Rattle.std.specs.Prelude.{List, [], Option, map, option_map}
use Rattle.event_log.specs.{declared.ids.LockId.LockId, Sections.{Section, renamed_section}}
use Rattle.layer_traits.specs.declared.moves.WaitList.TheVariants.{Sleepers, Receivers, Senders}
use Rattle.layer_traits.specs.declared.payloads.{MessageSlot.MessageSlot, Payload.Payload}
use Rattle.layer_traits.specs.{declared.sleeps.Outcome.Outcome, Threads.MoveRules.MoveRules}
use Rattle.layer_traits.specs.{Blocks.Payloads.abstract_outcome, Protocols.Protocol.Rules}
use Rattle.layer_traits.specs.Layers.Sleeping.{IsAwake, NoSleepers, SleepRules, SleepState}
use Rattle.layer_traits.specs.Layers.Sleeping.{wait_list_after, sleep_answer}
use Rattle.sleep_wakeup.specs.declared.edits.{SleepBlock.SleepBlock, SleepEdit.SleepEdit}
use Rattle.thread_blocks.specs.Queues.{first}

-- the edit of the layer above
abbrev pub slept_edit : {E : Type 0} → SleepEdit E → E
slept_edit d = d.edit

-- the edit that a passed-down edit means: the edit of the layer above, with the message slot of the
-- payload
abbrev pub abstract_nested_edit : {H E : Type 0} → (H → MessageSlot → E) → SleepEdit H → Payload
    → SleepEdit E
abstract_nested_edit abstract_call section payload =
    record { edit = abstract_call section.edit payload.message_slot }

-- the outcome that is reported, with that message slot
abbrev pub abstract_nested_answer : {B O : Type 0} → (B → MessageSlot → O) → Outcome B → Payload
    → Outcome O
abstract_nested_answer abstract_answer outcome payload =
    abstract_outcome abstract_answer outcome payload.message_slot

-- a block with empty waiting lists
abbrev pub resting : {B : Type 0} → B → SleepBlock B
resting above = record { sleepers = []; receivers = []; senders = []; above = above }

-- a block with its waiting lists as lists of threads
abbrev pub state_of : {B : Type 0} → SleepBlock B → SleepState B
state_of block =
    record {
      sleepers = block.sleepers;
      receivers = block.receivers;
      senders = block.senders;
      above = block.above;
    }

-- the opening blocks in this form
abbrev pub states : {B : Type 0} → (LockId → Option (SleepBlock B)) → LockId → Option (SleepState B)
states opening lock = option_map state_of (opening lock)

-- the block that an edit leaves
abbrev pub nested_edited : {E B O : Type 0} → SleepRules E B O → SleepEdit E → SleepBlock B
    → SleepBlock B
nested_edited protocol d block = record {
  sleepers = wait_list_after protocol Sleepers d.edit (state_of block) block.sleepers;
  receivers = wait_list_after protocol Receivers d.edit (state_of block) block.receivers;
  senders = wait_list_after protocol Senders d.edit (state_of block) block.senders;
  above = protocol.edited d.edit (first block.sleepers) block.above;
}

-- the edit's result
abbrev pub nested_answer : {E B O : Type 0} → SleepRules E B O → SleepEdit E → SleepBlock B
    → Outcome O
nested_answer protocol d block = sleep_answer protocol d.edit (state_of block)

-- an edit keeps the protocol: no thread was asleep at the opening, the edit's caller is awake, and
-- the layer above allows it
pub record NestedAllowed {E B O : Type 0} (protocol : SleepRules E B O)
    (opening : LockId → Option (SleepBlock B)) (past : List (Section (SleepEdit E)))
    (s : Section (SleepEdit E)) : Type 0 where
  pub start : NoSleepers (states opening)
  pub awake : IsAwake protocol (states opening) (map (renamed_section slept_edit) past)
      (renamed_section slept_edit s)
  pub upper : protocol.allowed (states opening) (map (renamed_section slept_edit) past)
      (renamed_section slept_edit s)

-- what the edits mean
abbrev pub nested_rules : {E B O : Type 0} → SleepRules E B O
    → Rules (SleepEdit E) (SleepBlock B) (Outcome O)
nested_rules protocol =
    record {
      edited = nested_edited protocol;
      answer = nested_answer protocol;
      allowed = NestedAllowed protocol;
    }

-- how they move threads
abbrev pub nested_moves : {E B O : Type 0} → SleepRules E B O → MoveRules (SleepEdit E) (Outcome O)
nested_moves protocol =
    record {
      caller = λ d. protocol.caller d.edit;
      slept = λ outcome. protocol.joins outcome.out;
      woke = λ outcome. outcome.woke;
    }
