-- A part of the layer: the pending call, its private state, and what the scheduler's result leaves.
use Rattle.std.specs.Prelude.{◌≡◌, Bool, not, ◌&&◌, Option, Some, None, is_some, option_map}
use Rattle.std.specs.Prelude.{if◌then◌else◌}
use Rattle.event_log.specs.declared.ids.{BufId.BufId, Tid.Tid}
use Rattle.layer_traits.specs.declared.passes.Pass.TheVariants.{MakeReady}
use Rattle.layer_traits.specs.declared.payloads.MessageSlot.{MessageSlot}
use Rattle.layer_traits.specs.declared.scheds.{SchedCall.SchedCall, SchedAnswer.SchedAnswer}
use Rattle.layer_traits.specs.declared.scheds.SchedAnswer.TheVariants.{Done, Answer}
use Rattle.layer_traits.specs.{declared.sleeps.Outcome.Outcome, Blocks.Payloads.abstract_outcome}
use Rattle.layer_traits.specs.{Threads.Places.Threads, Views.Renaming.renamed_sched}
use Rattle.layer_traits.specs.Layers.SleepLaw.{Sleeping}
use Rattle.sleep_wakeup.specs.declared.edits.SleepEdit.{SleepEdit}
use Rattle.sleep_wakeup.specs.{declared.deferred.DeferredOutcome.DeferredOutcome, Nested.slept_edit}
use Rattle.layer_traits.specs.declared.scheds.SchedCall.TheVariants as call

-- an edit of the layer above as an edit here
abbrev pub as_edit : {E : Type 0} → E → SleepEdit E
as_edit e = record { edit = e }

-- a section that is done and has not returned, with the outcome that it will report
pub record Deferred (E O : Type 0) : Type 0 where
  pub buffer : BufId
  pub edit : E
  pub outcome : Outcome O

-- what a deferred outcome reports, given its message slot
abbrev pub abstract_deferred : {E B O : Type 0} → (B → MessageSlot → O) → DeferredOutcome E B
    → Deferred E O
abstract_deferred abstract_answer k =
    record {
      buffer = k.buffer;
      edit = k.edit;
      outcome = abstract_outcome abstract_answer k.outcome k.message_slot;
    }

-- the outcome of a deferred section
abbrev pub outcome_in : {E O : Type 0} → Option (Deferred E O) → Option (Outcome O)
outcome_in deferred = option_map (λ k. k.outcome) deferred

-- a part's private state
abbrev pub own_of : {E O : Type 0} → Option (Deferred E O) → Threads → Sleeping O
own_of deferred threads = record { threads = threads; deferred = outcome_in deferred }

-- the pending call: the section whose outcome is deferred, or otherwise the scheduler's call
abbrev pub under_of : {E O : Type 0} → Option (Deferred E O) → Option (SchedCall (SleepEdit E))
    → Option (SchedCall E)
under_of None under = option_map (renamed_sched slept_edit) under
under_of (Some k) under = Some (call.OnBuffer k.buffer k.edit)

-- an outcome is deferred only while a thread is in the hand. The scheduler's call, if there is one,
-- then forwards that thread to its home CPU. While a section is under way the hand is empty
abbrev pub SectionDeferredFits : {E O : Type 0} → Option (Deferred E O)
    → Option (SchedCall (SleepEdit E)) → Option Tid → Type 0
SectionDeferredFits None None hand = Unit {0}
SectionDeferredFits None (Some (call.Pass p)) hand = Unit {0}
SectionDeferredFits None (Some (call.OnBuffer b d)) hand = hand ≡ None
SectionDeferredFits (Some k) None (Some t) = Unit {0}
SectionDeferredFits (Some k) (Some under) (Some t) = under ≡ call.Pass (MakeReady t)
SectionDeferredFits (Some k) None None = ⊥
SectionDeferredFits (Some k) (Some under) None = ⊥

-- the outcome must be deferred: its caller continues, and a thread is in the hand
abbrev pub must_wait : {O : Type 0} → Outcome O → Option Tid → Bool
must_wait outcome hand = not outcome.slept && is_some hand

-- what is deferred after the scheduler's result, with this message slot in the payload
abbrev pub deferred_of_answer : {E B : Type 0} → Option Tid → BufId → E → SchedAnswer (Outcome B)
    → MessageSlot → Option (DeferredOutcome E B)
deferred_of_answer hand b e Done message_slot = None
deferred_of_answer hand b e (Answer outcome) message_slot =
    if must_wait outcome hand
    then Some (record { buffer = b; edit = e; outcome = outcome; message_slot = message_slot })
    else None

-- what is returned after the scheduler's result
abbrev pub answer_reported : {E B : Type 0} → Option (DeferredOutcome E B) → Option Tid
    → SchedAnswer (Outcome B) → Option (Outcome B)
answer_reported deferred hand Done = option_map (λ k. k.outcome) deferred
answer_reported deferred hand (Answer outcome) =
    if must_wait outcome hand then None else Some outcome

-- the message slot in the payload after it: that of the deferred outcome, if it is returned
abbrev pub parcel_reported : {E B : Type 0} → Option (DeferredOutcome E B) → SchedAnswer (Outcome B)
    → MessageSlot → MessageSlot
parcel_reported None Done message_slot = message_slot
parcel_reported (Some k) Done message_slot = k.message_slot
parcel_reported deferred (Answer outcome) message_slot = message_slot

-- a call that is passed down is done if the scheduler returns a result
abbrev pub done_of : {O : Type 0} → Option (SchedAnswer O) → Option (Unit {0})
done_of answer = option_map (λ a. tt) answer
