-- The calls on a queuing lock as sections of the layer that lets threads sleep. They edit the busy
-- word and the block of the layer above.
use Rattle.std.specs.Prelude.{map, Option, Some, None, option_map}
use Rattle.event_log.specs.{declared.ids.{LockId.LockId, Tid.Tid}, Sections.renamed_section}
use Rattle.layer_traits.specs.declared.locked.QLockCall.{QLockCall, TheVariants.{Acquire, Inside}}
use Rattle.layer_traits.specs.declared.locked.{QLockCall.TheVariants.Release, QLockReply.QLockReply}
use Rattle.layer_traits.specs.declared.locked.QLockReply.TheVariants.{Acquired, Queued, Did}
use Rattle.layer_traits.specs.declared.locked.QLockReply.TheVariants.{Released}
use Rattle.layer_traits.specs.declared.locked.WakeWaiter.{WakeWaiter}
use Rattle.layer_traits.specs.declared.{payloads.MessageSlot.MessageSlot, sleeps.Wake.Wake}
use Rattle.layer_traits.specs.declared.sleeps.Wake.TheVariants.{Nobody, FirstSleeper, Receiver}
use Rattle.layer_traits.specs.{declared.sleeps.Wake.TheVariants.Sender, Layers.QLocking.LockAllowed}
use Rattle.layer_traits.specs.Layers.QLocking.{LockRules, LockState, wait_list_slept, lock_caller}
use Rattle.layer_traits.specs.Layers.{QLocking.asker_report, Sleeping.{SleepRules, SleepState}}
use Rattle.layer_traits.specs.Blocks.Payloads.{abstract_lock_call}
use Rattle.queuing_lock.specs.declared.edits.{QLockBlock.QLockBlock, QLockSection.QLockSection}
use Rattle.layer_traits.specs.declared.locked.WakeWaiter.TheVariants as signal

-- the call that a section is
abbrev pub lock_call : {F R : Type 0} → QLockSection F R → QLockCall F R
lock_call section = section.edit

-- the section that a call is
abbrev pub as_section : {F R : Type 0} → QLockCall F R → QLockSection F R
as_section e = record { edit = e }

-- the section that a passed-down section means: that of the call that is meant, with this message
-- slot
abbrev pub abstract_lock_section : {H F R : Type 0} → (H → MessageSlot → F) → QLockSection H R
    → MessageSlot
    → QLockSection F R
abstract_lock_section abstract_call section message_slot =
    record { edit = abstract_lock_call abstract_call section.edit message_slot }

-- a block of the layer above under a lock without an owner
abbrev pub unowned : {B : Type 0} → B → QLockBlock B
unowned above = record { busy = None; above = above }

-- the lock that a block with a busy word is: its owner is the thread in that word
abbrev pub lock_of_view : {B : Type 0} → LockState (QLockBlock B) → LockState B
lock_of_view state = record {
  owner = state.above.busy;
  sleepers = state.sleepers;
  receivers = state.receivers;
  senders = state.senders;
  above = state.above.above;
}

-- the same of a block with waiting lists
abbrev pub nested_lock_of : {B : Type 0} → SleepState (QLockBlock B) → LockState B
nested_lock_of state = record {
  owner = state.above.busy;
  sleepers = state.sleepers;
  receivers = state.receivers;
  senders = state.senders;
  above = state.above.above;
}

-- the locks that these blocks are
abbrev pub locks : {B : Type 0} → (LockId → Option (SleepState (QLockBlock B))) → LockId
    → Option (LockState B)
locks opening lock = option_map nested_lock_of (opening lock)

-- which thread leaves a waiting list at a signal
abbrev pub leaving : WakeWaiter → Wake
leaving signal.Nobody = Nobody
leaving (signal.Receiver t) = Receiver t
leaving (signal.Sender t) = Sender t

-- the block that this thread asked for, if this was in the busy word
abbrev pub busy_asked : {B : Type 0} → Tid → Option Tid → QLockBlock B → QLockBlock B
busy_asked t None block = record { busy = Some t; above = block.above }
busy_asked t (Some owner) block = block

module _ {F R B O : Type 0} (protocol : LockRules F R B O) where
  -- the block that a call leaves: a release hands the lock to the first of its sleepers
  abbrev pub busy_edited : QLockCall F R → Option Tid → QLockBlock B → QLockBlock B
  busy_edited (Acquire t) front block = busy_asked t block.busy block
  busy_edited (Inside f) front block =
      record { busy = block.busy; above = protocol.edited f block.above }
  busy_edited (Release r) front block =
      record { busy = front; above = protocol.last_edited r block.above }

  -- the result of a call
  abbrev pub busy_answer : QLockCall F R → Option Tid → QLockBlock B → QLockReply O
  busy_answer (Acquire t) front block = asker_report block.busy
  busy_answer (Inside f) front block = Did (protocol.answer f block.above)
  busy_answer (Release r) front block = Released (protocol.last_answer r block.above)

  -- which thread leaves a waiting list, according to the call's result
  abbrev pub busy_leaves : QLockReply O → Wake
  busy_leaves Acquired = Nobody
  busy_leaves Queued = Nobody
  busy_leaves (Did out) = leaving (protocol.signals out)
  busy_leaves (Released out) = FirstSleeper

-- what the calls on a queuing lock mean as sections: each keeps the protocol of the lock
abbrev pub busy_rules : {F R B O : Type 0} → LockRules F R B O
    → SleepRules (QLockSection F R) (QLockBlock B) (QLockReply O)
busy_rules protocol = record {
  caller = λ section. lock_caller protocol section.edit;
  edited = λ section. busy_edited protocol section.edit;
  answer = λ section. busy_answer protocol section.edit;
  joins = wait_list_slept protocol;
  leaves = busy_leaves protocol;
  allowed =
      λ opening past s. LockAllowed protocol (locks opening) (map (renamed_section lock_call) past)
      (renamed_section lock_call s);
}
