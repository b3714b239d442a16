-- The queuing lock in one step: its calls as edits of plain data, and what a part keeps of a call
-- that is done and has not returned.
use Rattle.std.specs.Prelude.{Bool, not, ◌&&◌, List, [], Option, Some, None, is_some, option_map}
use Rattle.std.specs.Prelude.{if◌then◌else◌}
use Rattle.event_log.specs.declared.ids.{BufId.BufId, CpuId.CpuId, LockId.LockId, Tid.Tid}
use Rattle.layer_traits.specs.declared.locked.{QLockCall.QLockCall, QLockReply.QLockReply}
use Rattle.layer_traits.specs.declared.payloads.{MessageSlot.MessageSlot, Payload.Payload}
use Rattle.layer_traits.specs.declared.queue_edits.QueueBlock.{QueueBlock}
use Rattle.layer_traits.specs.declared.queues.QueueEvent.{QueueEvent}
use Rattle.layer_traits.specs.declared.scheds.SchedAnswer.{SchedAnswer, TheVariants.{Done, Answer}}
use Rattle.layer_traits.specs.declared.{scheds.SchedCall.SchedCall, sleeps.Outcome.Outcome}
use Rattle.layer_traits.specs.Blocks.Payloads.{abstract_lock_call, abstract_lock_answer}
use Rattle.layer_traits.specs.{Blocks.Payloads.abstract_outcome, Protocols.Protocol.Rules}
use Rattle.layer_traits.specs.{Layers.QLocking.{LockRules, LockState}, Threads.MoveRules.MoveRules}
use Rattle.layer_traits.specs.{Threads.Places.Threads, Views.Renaming.renamed_events}
use Rattle.layer_traits.specs.Views.Renaming.{renamed_sched, viewed}
use Rattle.queuing_lock.specs.declared.edits.{QLockBlock.QLockBlock, QLockSection.QLockSection}
use Rattle.queuing_lock.specs.Nested.{as_section, busy_rules, lock_call, nested_lock_of}
use Rattle.queuing_lock.specs.Parts.{DeferredFits, outcome_handed_on, slept_left_by}
use Rattle.sleep_wakeup.specs.declared.edits.{SleepBlock.SleepBlock, SleepEdit.SleepEdit}
use Rattle.sleep_wakeup.specs.Nested.{nested_moves, nested_rules, abstract_nested_answer}
use Rattle.sleep_wakeup.specs.{Nested.{slept_edit, state_of}, Parts.{Deferred, SectionDeferredFits}}
use Rattle.sleep_wakeup.specs.Parts.{as_edit, outcome_in, under_of}
use Rattle.plain_layers.specs.declared.kernel.PlainKernel.{PlainKernel}
use Rattle.plain_layers.specs.{declared.qlocks.Unanswered.Unanswered, Kernels.HasKernel}

-- a lock that no thread owns and at which none waits
abbrev pub at_rest : {B : Type 0} → B → SleepBlock (QLockBlock B)
at_rest above =
    record {
      sleepers = [];
      receivers = [];
      senders = [];
      above = record { busy = None; above = above };
    }

-- the lock that a block is
abbrev pub lock_in : {B : Type 0} → SleepBlock (QLockBlock B) → LockState B
lock_in block = nested_lock_of (state_of block)

-- Abstraction function: the edit that a call's handed part means, with the message slot of the
-- payload.
abbrev pub abstract_plain_call : {H F R : Type 0} → (H → MessageSlot → F) → QLockCall H R → Payload
    → SleepEdit (QLockSection F R)
abstract_plain_call abstract_call call payload =
    record { edit = record { edit = abstract_lock_call abstract_call call payload.message_slot } }

-- Abstraction function: the outcome for the layer above, with that message slot.
abbrev pub abstract_plain_answer : {B O : Type 0} → (B → MessageSlot → O) → Outcome (QLockReply B)
    → Payload
    → Outcome (QLockReply O)
abstract_plain_answer abstract_answer outcome payload =
    abstract_nested_answer (abstract_lock_answer abstract_answer) outcome payload

-- what the calls mean, and how they move threads: the same as sections of the layer that lets
-- threads sleep
abbrev pub plain_lock_rules : {F R B O : Type 0} → LockRules F R B O
    → Rules (SleepEdit (QLockSection F R)) (SleepBlock (QLockBlock B)) (Outcome (QLockReply O))
plain_lock_rules protocol = nested_rules (busy_rules protocol)

abbrev pub plain_lock_moves : {F R B O : Type 0} → LockRules F R B O
    → MoveRules (SleepEdit (QLockSection F R)) (Outcome (QLockReply O))
plain_lock_moves protocol = nested_moves (busy_rules protocol)

-- the machine is sound, and this is a CPU for which its holder acts
abbrev pub HasLocks : {F R B O H A : Type 0} → LockRules F R B O
    → PlainKernel (SleepEdit (QLockSection F R)) (SleepBlock (QLockBlock B))
    (Outcome (QLockReply O)) H A
    → CpuId → Type 0
HasLocks protocol m c = HasKernel (plain_lock_rules protocol) (plain_lock_moves protocol) m c

-- the locks of an opening, and the calls of a history
abbrev pub locks_of : {B : Type 0} → (LockId → Option (QueueBlock (SleepBlock (QLockBlock B))))
    → LockId
    → Option (QueueBlock (LockState B))
locks_of opening = viewed nested_lock_of (viewed state_of opening)

abbrev pub calls_of : {F R : Type 0} → List (QueueEvent (SleepEdit (QLockSection F R)))
    → List (QueueEvent (QLockCall F R))
calls_of past = renamed_events lock_call (renamed_events slept_edit past)

-- the kept outcome, as the layer above sees it
abbrev pub abstract_kept : {F R B O : Type 0} → (B → MessageSlot → O)
    → Option (Unanswered (SleepEdit (QLockSection F R)) (QLockReply B))
    → Option (Deferred (QLockSection F R) (QLockReply O))
abstract_kept abstract_answer kept =
    option_map (λ k. record {
      buffer = k.buffer;
      edit = slept_edit k.edit;
      outcome = abstract_outcome (abstract_lock_answer abstract_answer) k.outcome k.message_slot;
    }) kept

-- the call under way: the one whose outcome is kept
abbrev pub under_kept : {F R O : Type 0} → Option (Deferred (QLockSection F R) (QLockReply O))
    → Option (SchedCall (QLockCall F R))
under_kept deferred = option_map (renamed_sched lock_call) (under_of deferred None)

-- an outcome is kept only while a thread is in the hand, and only of a call inside the lock or of a
-- release
abbrev pub KeptFits : {F R O : Type 0} → Option (Deferred (QLockSection F R) (QLockReply O))
    → Option Tid
    → Type 0
KeptFits deferred hand =
    SectionDeferredFits deferred None hand
    × DeferredFits (under_kept deferred) (outcome_in deferred) hand

-- the result is deferred: the caller continues, and a thread is in the hand
abbrev pub answer_waits : {B : Type 0} → Outcome B → Option Tid → Bool
answer_waits outcome hand = not outcome.slept && is_some hand

-- what is kept after the scheduler's result, if this message slot is in the payload
abbrev pub kept_after : {E B : Type 0} → Option Tid → BufId → E → SchedAnswer (Outcome B)
    → MessageSlot
    → Option (Unanswered E B)
kept_after hand b e Done message_slot = None
kept_after hand b e (Answer outcome) message_slot =
    if answer_waits outcome hand
    then Some (record { buffer = b; edit = e; outcome = outcome; message_slot = message_slot })
    else None

-- what is returned after it
abbrev pub answered_after : {E B : Type 0} → Option (Unanswered E B) → Option Tid
    → SchedAnswer (Outcome B) → Option (Outcome B)
answered_after kept hand Done = option_map (λ k. k.outcome) kept
answered_after kept hand (Answer outcome) = if answer_waits outcome hand then None else Some outcome

-- the message slot in the payload after it: that of the kept outcome, if that is returned
abbrev pub parcel_after : {E B : Type 0} → Option (Unanswered E B) → SchedAnswer (Outcome B)
    → MessageSlot → MessageSlot
parcel_after None Done message_slot = message_slot
parcel_after (Some k) Done message_slot = k.message_slot
parcel_after kept (Answer outcome) message_slot = message_slot

-- for which lock each thread slept, after a call of t returned so: a queued caller sleeps
abbrev pub noted_after : {O : Type 0} → Tid → BufId → List (Option BufId)
    → Option (Outcome (QLockReply O)) → List (Option BufId)
noted_after t b slept None = slept
noted_after t b slept (Some outcome) = slept_left_by t b slept outcome

-- what is returned to the layer above: nothing for a queued caller
abbrev pub handed_on : {O : Type 0} → Option (Outcome (QLockReply O))
    → Option (Outcome (QLockReply O))
handed_on None = None
handed_on (Some outcome) = outcome_handed_on outcome

-- an outcome, as the layer above sees it
abbrev pub tell : {P O : Type 0} → (P → MessageSlot → O) → MessageSlot → Outcome (QLockReply P)
    → Outcome (QLockReply O)
tell abstract_answer message_slot outcome =
    abstract_outcome (abstract_lock_answer abstract_answer) outcome message_slot

-- what is kept of a call after this result, and what is returned, as the layer above sees it
abbrev pub told_kept : {F R P O : Type 0} → (P → MessageSlot → O) → Threads → BufId → QLockCall F R
    → SchedAnswer (Outcome (QLockReply P)) → MessageSlot
    → Option (Deferred (QLockSection F R) (QLockReply O))
told_kept abstract_answer threads b e answer message_slot =
    abstract_kept abstract_answer
    (kept_after threads.hand b (as_edit (as_section e)) answer message_slot)

abbrev pub told_answer : {E P O : Type 0} → (P → MessageSlot → O) → Threads
    → Option (Unanswered E (QLockReply P)) → SchedAnswer (Outcome (QLockReply P)) → MessageSlot
    → Option (Outcome (QLockReply O))
told_answer abstract_answer threads kept answer message_slot =
    option_map (tell abstract_answer (parcel_after kept answer message_slot))
    (answered_after kept threads.hand answer)
