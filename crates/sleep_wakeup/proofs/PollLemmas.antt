-- One poll of a part: what the part owes the scheduler, and what the scheduler's poll is here.
use Rattle.std.proofs.Common.{arith, ◌≡◌, List, Option, Some, None, option_map, map, refl, ap, sym, ◌∙◌, subst}
use Rattle.event_log.specs.{declared.ids.{BufId.BufId, CpuId.CpuId, LockId.LockId, Tid.Tid}, History.IsLawful, Actions.{Action, renamed}}
use Rattle.layer_traits.specs.declared.{passes.Pass.Pass, payloads.{MessageSlot.MessageSlot, Payload.Payload}, queue_edits.QueueBlock.QueueBlock}
use Rattle.layer_traits.specs.declared.{queue_edits.{QueueEdit.QueueEdit, QueueAnswer.QueueAnswer}, queues.QueueEvent.QueueEvent}
use Rattle.layer_traits.specs.declared.{scheds.{SchedAnswer.{SchedAnswer, TheVariants.Done}, SchedCall.SchedCall}, sleeps.Outcome.Outcome}
use Rattle.layer_traits.specs.Blocks.{Payloads.{abstract_outcome, abstract_sched_answer, abstract_result}, QueueBlocks.{StartsWell, homes_in, inner}}
use Rattle.layer_traits.specs.{Blocks.QueueRules.queue_rules, Threads.Places.{Stands, Threads}, Polling.Plans.{Follows, Left, Plan, table_of}}
use Rattle.layer_traits.specs.Layers.{Queues.{QueueAllowed, moves_in}, Scheds.{MaySched, SchedPolled, sched_left, sched_plan}, SleepLaw.{MayCall, MaySleep}}
use Rattle.layer_traits.specs.Layers.{SleepLaw.{SleepPolled, Sleeping, done_if, due, left_passed, left_reported, pass_plan, sleep_plan}, Sleeping.NoSleepers}
use Rattle.layer_traits.specs.{Layers.Sleeping.{SleepRules, wait_list_at, sleep_moves, sleep_rules}, Views.Renaming.{renamed_edit, renamed_events}}
use Rattle.layer_traits.{specs.Views.Renaming.{renamed_sched, viewed}, proofs.{CallLemmas.follows_raised, KernelRenaming.{follows_named, homes_viewed}}}
use Rattle.layer_traits.proofs.{KernelRenaming.{inner_viewed, plan_renamed, polled_renamed}, SleepLemmas.{HandDefers, sleep_polled}}
use Rattle.sleep_wakeup.specs.{declared.{edits.{SleepBlock.SleepBlock, SleepEdit.SleepEdit}, deferred.DeferredOutcome.DeferredOutcome}, Laws.NestedLaws.beneath}
use Rattle.sleep_wakeup.specs.{Laws.NestedLaws.{here, nested_stays, nested_wraps}, Nested.{slept_edit, nested_moves, nested_rules, abstract_nested_answer}}
use Rattle.sleep_wakeup.specs.{Nested.{state_of, states}, Parts.{Deferred, SectionDeferredFits, answer_reported, as_edit, deferred_of_answer}}
use Rattle.sleep_wakeup.specs.Parts.{abstract_deferred, done_of, parcel_reported, outcome_in, own_of, under_of}
use Rattle.layer_traits.specs.declared.scheds.SchedCall.TheVariants as call

-- where no thread is asleep at the opening here, none is below
pub nobody_beneath : {B : Type 0} (opening : LockId → Option (QueueBlock (SleepBlock B))) → NoSleepers (inner (viewed state_of opening))
    → NoSleepers (states (inner opening))
nobody_beneath opening nobody lock line = ap (wait_list_at line) (sym (inner_viewed state_of opening lock)) ∙ nobody lock line

-- a part at boot has no deferred outcome
pub fresh_deferred : {E : Type 0} (O : Type 0) (under : Option (SchedCall (SleepEdit E))) (hand : Option Tid) → under ≡ None
    → SectionDeferredFits {E = E} {O = O} None under hand
fresh_deferred O under hand none = grind arith

-- where a section may be polled, an outcome is deferred exactly while a thread is in the hand
pub hand_defers : {E O : Type 0} (deferred : Option (Deferred E O)) (under : Option (SchedCall (SleepEdit E))) (hand : Option Tid) (b : BufId) (e : E)
    (duty : Type 0) → SectionDeferredFits deferred under hand → MayCall (under_of deferred under) (call.OnBuffer b e) duty → (duty → hand ≡ None)
    → HandDefers hand (outcome_in deferred)
hand_defers deferred under hand b e duty coupled may empty = grind arith

-- the scheduler's result of a call that is passed down reports only that the call is done
pub done_is : {O : Type 0} (answer : Option (SchedAnswer (Outcome O))) → ((a : SchedAnswer (Outcome O)) → answer ≡ Some a → a ≡ Done)
    → done_if (done_of answer) ≡ answer
done_is answer only = grind arith

-- whether it is done does not depend on what its result reports
pub done_told : {B O : Type 0} (abstract_answer : SchedAnswer B → Payload → SchedAnswer O) (answer : Option (SchedAnswer B)) (payload : Payload)
    → done_of answer ≡ done_of (abstract_result abstract_answer answer payload)
done_told abstract_answer answer payload = grind arith

-- what is deferred and returned is what the scheduler's result reports
pub reported_is : {E B O : Type 0} (abstract_answer : B → MessageSlot → O) (deferred : Option (DeferredOutcome E B)) (threads : Threads) (b : BufId) (e : E)
    (answer : SchedAnswer (Outcome B)) (payload payload' : Payload)
    (hand : Option Tid) (deferred' : Option (DeferredOutcome E B)) (result : Option (Outcome B))
    → hand ≡ threads.hand → deferred' ≡ deferred_of_answer hand b e answer payload.message_slot → result ≡ answer_reported deferred hand answer
    → payload'.message_slot ≡ parcel_reported deferred answer payload.message_slot
    → left_reported (outcome_in (option_map (abstract_deferred abstract_answer) deferred)) threads
    (Some (abstract_sched_answer (abstract_nested_answer abstract_answer) answer payload))
    ≡ record {
      local = own_of (option_map (abstract_deferred abstract_answer) deferred') threads;
      answer = abstract_result (abstract_nested_answer abstract_answer) result payload';
    }
reported_is {E = E} {B = B} {O = O} abstract_answer deferred threads b e answer payload payload' hand deferred' result in_hand keeps gives brings =
    by_answer deferred answer ∙ ((λ i. leaves deferred answer (sym in_hand i))
    ∙ λ i. record {
      local = own_of (option_map (abstract_deferred abstract_answer) (sym keeps i)) threads;
      answer = option_map (λ o. abstract_outcome abstract_answer o (sym brings i)) (sym gives i);
    })
  where
    leaves : Option (DeferredOutcome E B) → SchedAnswer (Outcome B) → Option Tid → Left (Sleeping O) (Outcome O)
    leaves d a h = record {
      local = own_of (option_map (abstract_deferred abstract_answer) (deferred_of_answer h b e a payload.message_slot)) threads;
      answer = option_map (λ o. abstract_outcome abstract_answer o (parcel_reported d a payload.message_slot)) (answer_reported d h a);
    }

    by_answer : (d : Option (DeferredOutcome E B)) (a : SchedAnswer (Outcome B))
        → left_reported (outcome_in (option_map (abstract_deferred abstract_answer) d)) threads
        (Some (abstract_sched_answer (abstract_nested_answer abstract_answer) a payload)) ≡ leaves d a threads.hand
    by_answer d a = grind arith

module _ {E B O : Type 0} (protocol : SleepRules E B O) (opening : LockId → Option (QueueBlock (SleepBlock B))) where
  module _ (c : CpuId) (past : List (QueueEvent (SleepEdit E))) (threads : Threads) (b : BufId) (e : E) (starts : StartsWell opening)
      (lawful : IsLawful (QueueAllowed (beneath protocol opening)) past) (nobody : NoSleepers (states (inner opening)))
      (stands : Stands (homes_in opening) c (moves_in (beneath protocol opening) past) threads) where
    -- the call that is due may be polled on the scheduler
    pub nested_may : (deferred : Option (Deferred E O)) (under : Option (SchedCall (SleepEdit E))) (hand : Option Tid) → hand ≡ threads.hand
        → SectionDeferredFits deferred under hand
        → MayCall (under_of deferred under) (call.OnBuffer b e) (MaySleep (here protocol opening) c (renamed_events slept_edit past) threads b e)
        → MaySched (beneath protocol opening) c past threads under (due hand b (as_edit e))
    nested_may None None None is coupled may = ((may.current, may.hand), nested_stays protocol opening c past threads b e starts lawful nobody stands may)
    nested_may None (Some (call.OnBuffer at d)) None is coupled may = ap (renamed_sched as_edit) may
    nested_may (Some k) None (Some t) is coupled may = (sym is, tt)
    nested_may (Some k) (Some under) (Some t) is coupled may = coupled
    nested_may deferred under hand is coupled may = absurd (grind arith)

  due_renamed : (hand : Option Tid) (b : BufId) (e : E) → renamed_sched slept_edit (due hand b (as_edit e)) ≡ due hand b e
  due_renamed hand b e = grind arith

  module _ (ActsFor : CpuId → Type 0) (c : CpuId) (answer : Option (SchedAnswer (Outcome O))) (old new : List (QueueEvent (SleepEdit E)))
      (threads threads' : Threads) where
    -- a poll of a call that returned this, here
    abbrev Polled : SchedCall E → Option (SchedAnswer (Outcome O)) → Type 0
    Polled s a = SchedPolled (here protocol opening) ActsFor c s a (renamed_events slept_edit old) (renamed_events slept_edit new) threads threads'

    -- the scheduler's poll of a call is one here
    nested_polled : (s : SchedCall (SleepEdit E)) → SchedPolled (beneath protocol opening) ActsFor c s answer old new threads threads'
        → Polled (renamed_sched slept_edit s) answer
    nested_polled s polled = polled_renamed _ _ _ _ (nested_wraps protocol opening) _ _ _ _ _ _ _ _ polled

    -- the poll of the call that is due is a poll of the section
    pub nested_sleeps : (b : BufId) (e : E) (deferred : Option (Deferred E O)) (hand : Option Tid) → hand ≡ threads.hand
        → HandDefers hand (outcome_in deferred) → SchedPolled (beneath protocol opening) ActsFor c (due hand b (as_edit e)) answer old new threads threads'
        → SleepPolled (here protocol opening) ActsFor c b e (renamed_events slept_edit old) (renamed_events slept_edit new) (own_of deferred threads)
        (left_reported (outcome_in deferred) threads' answer)
    nested_sleeps b e deferred hand is coupled polled
        = sleep_polled _ b e _ _ _ _ (own_of deferred threads) threads' hand (outcome_in deferred) answer (sym is) refl
        coupled (subst (λ s. Polled s answer) (due_renamed hand b e) (nested_polled (due hand b (as_edit e)) polled))

    -- the poll of a call that is passed down is one here
    pub nested_passed : (p : Pass) (result : Option (Unit {0})) → result ≡ done_of answer
        → SchedPolled (beneath protocol opening) ActsFor c (call.Pass p) answer old new threads threads' → Polled (call.Pass p) (done_if result)
    nested_passed p result is polled = subst (Polled (call.Pass p)) (sym (ap done_if is ∙ done_is answer (only answer (nested_polled (call.Pass p) polled))))
        (nested_polled (call.Pass p) polled)
      where
        only : (r : Option (SchedAnswer (Outcome O))) → Polled (call.Pass p) r → (a : SchedAnswer (Outcome O)) → r ≡ Some a → a ≡ Done
        only r abstract_answer a is = grind arith

  module _ (ActsFor : CpuId → Type 0) (c : CpuId) (acts acts' : List (Action (QueueEdit (SleepEdit E)))) where
    -- a poll followed a plan of the lower layer
    abbrev pub FollowsBeneath : {S A : Type 0} → Plan (QueueEdit (SleepEdit E)) (QueueAnswer (Outcome O)) S A → Left S A → Type 0
    FollowsBeneath plan got = Follows ActsFor (table_of (queue_rules (nested_rules protocol) (nested_moves protocol))) opening c plan acts acts' got

    -- a poll followed a plan here
    abbrev pub FollowsHere : {S A : Type 0} → Plan (QueueEdit E) (QueueAnswer (Outcome O)) S A → Left S A → Type 0
    FollowsHere plan got = Follows ActsFor (table_of (queue_rules (sleep_rules protocol) (sleep_moves protocol))) (viewed state_of opening) c plan
        (map (renamed (renamed_edit slept_edit)) acts) (map (renamed (renamed_edit slept_edit)) acts') got

    module _ (threads threads' : Threads) (answer : Option (SchedAnswer (Outcome O))) (deferred : Option (Deferred E O)) where
      -- the plan of a call here
      abbrev plan_here : SchedCall E → Plan (QueueEdit E) (QueueAnswer (Outcome O)) Threads (SchedAnswer (Outcome O))
      plan_here s = sched_plan (sleep_moves protocol) (homes_in (viewed state_of opening)) c s threads

      -- a poll that followed the scheduler's plan followed its plan here
      nested_follows : (s : SchedCall (SleepEdit E))
          → FollowsBeneath (sched_plan (nested_moves protocol) (homes_in opening) c s threads) (sched_left threads' answer)
          → FollowsHere (plan_here (renamed_sched slept_edit s)) (sched_left threads' answer)
      nested_follows s follows = subst (λ plan. FollowsHere plan (sched_left threads' answer))
          (plan_renamed _ _ _ _ (nested_wraps protocol opening) (homes_in opening) c s threads
          ∙ ap (λ homes. sched_plan (sleep_moves protocol) homes c (renamed_sched slept_edit s) threads) (sym (homes_viewed state_of opening)))
          (follows_named _ _ _ _ (nested_wraps protocol opening) ActsFor opening c (sched_plan (nested_moves protocol) (homes_in opening) c s threads) acts
          acts'
          (sched_left threads' answer) follows)

      pub nested_sleep_follows : (b : BufId) (e : E) (hand : Option Tid) → hand ≡ threads.hand
          → FollowsBeneath (sched_plan (nested_moves protocol) (homes_in opening) c (due hand b (as_edit e)) threads) (sched_left threads' answer)
          → FollowsHere (sleep_plan (sleep_moves protocol) (homes_in (viewed state_of opening)) c b e (own_of deferred threads))
          (left_reported (outcome_in deferred) threads' answer)
      nested_sleep_follows b e hand is follows = follows_raised _ _ _ _ (λ l. left_reported (outcome_in deferred) l.local l.answer)
          (plan_here (due threads.hand b e)) _ _ (sched_left threads' answer) (subst (λ s. FollowsHere (plan_here s) (sched_left threads' answer))
          (due_renamed hand b e ∙ ap (λ h. due h b e) is) (nested_follows (due hand b (as_edit e)) follows))

      pub nested_pass_follows : (p : Pass) (result : Option (Unit {0})) → result ≡ done_of answer
          → FollowsBeneath (sched_plan (nested_moves protocol) (homes_in opening) c (call.Pass p) threads) (sched_left threads' answer)
          → FollowsHere (pass_plan (sleep_moves protocol) (homes_in (viewed state_of opening)) c p (own_of deferred threads))
          (record { local = own_of deferred threads'; answer = result })
      nested_pass_follows p result is follows =
          subst (λ r. FollowsHere (pass_plan (sleep_moves protocol) (homes_in (viewed state_of opening)) c p (own_of deferred threads))
          (record { local = own_of deferred threads'; answer = r })) (sym is)
          (follows_raised _ _ _ _ (left_passed (outcome_in deferred)) (plan_here (call.Pass p)) _ _ (sched_left threads' answer)
          (nested_follows (call.Pass p) follows))
