-- What a part of one-step queuing locks makes of its scheduler's result is what the law says, as
-- the layer above sees it.
use Rattle.std.proofs.Common.{arith, ◌≡◌, List, Option, Some, None, IsSome, is_some, if◌then◌else◌, option_map}
use Rattle.{event_log.specs.declared.ids.{BufId.BufId, Tid.Tid}, layer_traits.specs.declared.locked.{QLockCall.QLockCall, QLockReply.QLockReply}}
use Rattle.layer_traits.specs.declared.{passes.Pass.Pass as PassCall, payloads.{MessageSlot.MessageSlot, Payload.Payload}, queues.QueueEvent.QueueEvent}
use Rattle.layer_traits.specs.declared.scheds.{SchedAnswer.{SchedAnswer, TheVariants.{Done, Answer}}, SchedCall.TheVariants.{Pass, OnBuffer}}
use Rattle.layer_traits.specs.{declared.sleeps.Outcome.Outcome, Threads.Places.Threads, Blocks.Payloads.{abstract_sched_call, abstract_sched_answer}}
use Rattle.layer_traits.specs.Layers.{Queues.Kernel, QLockLaw.{left_after, locking}, Scheds.answer_to, SleepLaw.{MayCall, Sleeping, due, left_reported}}
use Rattle.{layer_traits.proofs.SleepLemmas.HandDefers, queuing_lock.specs.declared.edits.QLockSection.QLockSection}
use Rattle.sleep_wakeup.specs.{declared.edits.SleepEdit.SleepEdit, Parts.{Deferred, SectionDeferredFits, outcome_in, own_of}}
use Rattle.plain_layers.specs.{declared.qlocks.Unanswered.Unanswered, QLocks.{KeptFits, handed_on, abstract_kept, noted_after, abstract_plain_call}}
use Rattle.plain_layers.specs.QLocks.{abstract_plain_answer, tell, told_answer, told_kept, under_kept}

-- the call that is due, as it is meant
pub due_meant : {H F R : Type 0} (abstract_call : H → MessageSlot → F) (hand : Option Tid) (b : BufId) (call : QLockCall H R) (payload : Payload)
    → abstract_sched_call (abstract_plain_call abstract_call) (due hand b call) payload ≡ due hand b (abstract_plain_call abstract_call call payload)
due_meant abstract_call hand b call payload = grind arith

-- while a pass may be polled nothing is kept
pub kept_passed : {F R O : Type 0} (deferred : Option (Deferred (QLockSection F R) (QLockReply O))) (p : PassCall) (duty : Type 0) (hand : Option Tid)
    → MayCall (under_kept deferred) (Pass p) duty → KeptFits deferred hand
kept_passed deferred p duty hand may = grind arith

no_answer : {O : Type 0} (o : Option O) → option_map Answer o ≡ Some Done → ⊥
no_answer o is = grind (arith, is)

module _ {F R P O : Type 0} (abstract_answer : P → MessageSlot → O) where
  -- if the scheduler's call is done, something was kept
  pub done_keeps : {B : Type 0} (k : Kernel (SleepEdit (QLockSection F R)) B (Outcome (QLockReply O))) (past : List (QueueEvent (SleepEdit (QLockSection F R))))
      (b : BufId)
      (d : SleepEdit (QLockSection F R)) (kept : Option (Unanswered (SleepEdit (QLockSection F R)) (QLockReply P))) (hand : Option Tid)
      → HandDefers hand (outcome_in (abstract_kept abstract_answer kept)) → answer_to k past (due hand b d) ≡ Some Done → IsSome kept
  done_keeps k past b d kept hand defers done = grind (arith, no_answer)

  module _ (threads : Threads) (b : BufId) (e : QLockCall F R) where
    pub left_is : (kept : Option (Unanswered (SleepEdit (QLockSection F R)) (QLockReply P))) (answer : SchedAnswer (Outcome (QLockReply P))) (payload : Payload)
        → left_reported (outcome_in (abstract_kept abstract_answer kept)) threads
        (Some (abstract_sched_answer (abstract_plain_answer abstract_answer) answer payload))
        ≡ record {
          local = own_of (told_kept abstract_answer threads b e answer payload.message_slot) threads;
          answer = told_answer abstract_answer threads kept answer payload.message_slot;
        }
    left_is kept answer payload = grind arith

    pub under_is : (kept : Option (Unanswered (SleepEdit (QLockSection F R)) (QLockReply P))) (answer : SchedAnswer (Outcome (QLockReply P)))
        (message_slot : MessageSlot)
        → (answer ≡ Done → IsSome kept)
        → under_kept (told_kept abstract_answer threads b e answer message_slot)
        ≡ (if is_some (told_answer abstract_answer threads kept answer message_slot) then None else Some (OnBuffer b e))
    under_is kept answer message_slot some = grind (arith, some)

    pub sends_home : (answer : SchedAnswer (Outcome (QLockReply P))) (message_slot : MessageSlot)
        → SectionDeferredFits (told_kept abstract_answer threads b e answer message_slot) None threads.hand
    sends_home answer message_slot = grind arith

    pub noted_is : (t : Tid) (slept : List (Option BufId)) (sleep : Sleeping (QLockReply O)) (message_slot : MessageSlot) (r : Option (Outcome (QLockReply P)))
        → left_after t b slept sleep (option_map (tell abstract_answer message_slot) r)
        ≡ locking sleep (noted_after t b slept r) (option_map (tell abstract_answer message_slot) (handed_on r))
    noted_is t slept sleep message_slot r = grind arith
