use Rattle.std.proofs.Common.{arith, ◌≡◌, Option, Some, None, refl, option_map, ap, subst, sym, ◌∙◌}
use Rattle.{event_log.specs.declared.ids.{BufId.BufId, Tid.Tid}, layer_traits.specs.declared.{payloads.Payload.Payload, scheds.SchedAnswer.SchedAnswer}}
use Rattle.layer_traits.specs.{declared.{scheds.SchedCall.SchedCall, sleeps.Outcome.Outcome}, Blocks.Payloads.{abstract_sched_call, abstract_sched_answer}}
use Rattle.layer_traits.specs.{Blocks.{Payloads.abstract_result, QueueBlocks.homes_in}, Threads.Places.Threads, Polling.Plans.Left}
use Rattle.layer_traits.specs.{Views.Renaming.{renamed_events, viewed}, Layers.{Scheds.{MaySched, SchedPolled, sched_plan, sched_left}, SleepLaw.MaySleep}}
use Rattle.layer_traits.specs.Layers.{SleepLaw.{SleepPolled, Sleeping, due, left_reported, sleep_plan}, Sleeping.sleep_moves}
use Rattle.sleep_wakeup.specs.{declared.{deferred.DeferredOutcome.DeferredOutcome, edits.SleepEdit.SleepEdit}, Laws.NestedLaws.{beneath, here}}
use Rattle.sleep_wakeup.specs.{Nested.{slept_edit, abstract_nested_edit, nested_moves, abstract_nested_answer, state_of}, Parts.{Deferred, SectionDeferredFits}}
use Rattle.sleep_wakeup.{specs.Parts.{as_edit, abstract_deferred, outcome_in, own_of}, proofs.PollLemmas.{FollowsBeneath, FollowsHere, hand_defers, nested_may}}
use Rattle.sleep_wakeup.proofs.{PollLemmas.{nested_sleep_follows, nested_sleeps, reported_is}, sleeper.SleeperThreadLayerSleepLaw.poll.Given.Over}
use Rattle.sleep_wakeup.proofs.sleeper.SleeperThreadLayerSleepLaw.poll.Goals.{Start, In-None, In-Some, After-poll, After-complete, After-complete_home}
use Rattle.sleep_wakeup.proofs.sleeper.SleeperThreadLayerSleepLaw.poll.Goals as goal

-- the thread in the hand of these threads
abbrev in_hand : Threads → Option Tid
in_hand local = local.hand

-- what the part owes and what its poll is, by case on the thread in the hand
module _ (g : Over) (c : Start g) (hand : Option Tid) (is : hand ≡ (g.S.Layer.local c.args.self.now.lower).hand) where
  open g.S.Layer use {ActsFor, acts, cpu_of, opening, local, history, under_way}
  open g.E.Sleeps use {protocol}

  abbrev lower : g.row.S.Denot
  lower = c.args.self.now.lower

  abbrev m : g.row.S-Machine.Denot
  m = c.args.m.now

  abbrev buffer : BufId
  buffer = c.args.call.buffer

  abbrev edit : g.row.E.Denot
  edit = g.E.Sleeps.abstract_call c.args.call.edit c.args.payload.now.message_slot

  abbrev deferred : Option (Deferred g.row.E.Denot g.row.E-Out.Denot)
  deferred = option_map (abstract_deferred g.E.Sleeps.abstract_answer) c.args.self.now.deferred

  coupled : SectionDeferredFits deferred (under_way lower) hand
  coupled = subst (λ h. SectionDeferredFits deferred (under_way lower) h) (sym is) c.requires.coupled.2

  -- the call that is due may be polled
  may : MaySched (beneath protocol (opening m)) (cpu_of lower) (history m) (local lower) (under_way lower) (due hand buffer (as_edit edit))
  may =
      let met = g.met.S.Layer in
      let acts = met.own_cpu lower m c.requires.coupled.0 in
      nested_may protocol _ _ _ (local lower) buffer edit (met.opens m _ acts) (met.lawful m _ acts) c.requires.coupled.1
      (met.stands lower m c.requires.coupled.0)
      deferred (under_way lower) hand is coupled c.requires.call

  module _ (after : g.row.S.Denot) (result : Option (SchedAnswer (Outcome g.row.E-Response.Denot))) (payload : Payload) where
    abbrev answer : Option (SchedAnswer (Outcome g.row.E-Out.Denot))
    answer = abstract_result (abstract_sched_answer (abstract_nested_answer g.E.Sleeps.abstract_answer)) result payload

    -- what is left where the scheduler's call continues
    waits : result ≡ None → left_reported (outcome_in deferred) (local after) answer ≡ left_reported (outcome_in deferred) (local after) None
    waits is =
        ap (λ r. left_reported (outcome_in deferred) (local after)
        (abstract_result (abstract_sched_answer (abstract_nested_answer g.E.Sleeps.abstract_answer)) r payload)) is

    -- its poll is a poll of the section
    module _ {call : SchedCall (SleepEdit g.row.E.Denot)} {left : Left (Sleeping g.row.E-Out.Denot) (Outcome g.row.E-Out.Denot)} (n : g.row.S-Machine.Denot)
        (calls : call ≡ due hand buffer (as_edit edit)) (leaves : left_reported (outcome_in deferred) (local after) answer ≡ left) where
      sleeps : SchedPolled (beneath protocol (opening m)) (ActsFor m) (cpu_of lower) call answer (history m) (history n) (local lower) (local after)
          → SleepPolled (here protocol (opening m)) (ActsFor m) (cpu_of lower) buffer edit (renamed_events slept_edit (history m))
          (renamed_events slept_edit (history n)) (own_of deferred (local lower)) left
      sleeps polled =
          rw (← leaves) (nested_sleeps protocol (opening m) (ActsFor m) (cpu_of lower) answer (history m) (history n) (local lower) (local after) buffer edit
          deferred hand is (hand_defers deferred (under_way lower) hand buffer edit
          (MaySleep (here protocol (opening m)) (cpu_of lower) (renamed_events slept_edit (history m)) (local lower) buffer edit) coupled c.requires.call
          (λ may. is ∙ may.hand)) (rw calls at polled))

      follows : FollowsBeneath protocol (opening m) (ActsFor m) (cpu_of lower) (acts m) (acts n)
          (sched_plan (nested_moves protocol) (homes_in (opening m)) (cpu_of lower) call (local lower)) (sched_left (local after) answer)
          → FollowsHere protocol (opening m) (ActsFor m) (cpu_of lower) (acts m) (acts n)
          (sleep_plan (sleep_moves protocol) (homes_in (viewed state_of (opening m))) (cpu_of lower) buffer edit (own_of deferred (local lower))) left
      follows followed =
          rw (← leaves) (nested_sleep_follows protocol (opening m) (ActsFor m) (cpu_of lower) (acts m) (acts n) (local lower) (local after) answer
          deferred buffer edit hand is (rw calls at followed))

-- no thread is in the hand: the section is polled

none : (g : Over) (c : In-None g) → None ≡ (g.S.Layer.local c.args.self.now.lower).hand
none g c = sym c.in-None.is ∙ (c.hand.ensures ∙ ap in_hand c.local_here.ensures)

pub poll-requires-clause-call : goal.poll-requires-clause-call
poll-requires-clause-call g c =
    let S = g.S.Layer in
    let at = goal.at.poll-requires-clause-call g c in
    let m = c.args.m.now in
    let lower = c.args.self.now.lower in
    subst (λ s. MaySched (beneath g.E.Sleeps.protocol (S.opening m)) (S.cpu_of lower) (S.history m) (S.local lower) (S.under_way lower)
    (abstract_sched_call (abstract_nested_edit g.E.Sleeps.abstract_call) s c.args.payload.now)) (sym c.section.ensures) (may g at.Start None
    (none g at.In-None))

-- the section as the scheduler reads it
due_of : (g : Over) (c : After-poll g) → abstract_sched_call (abstract_nested_edit g.E.Sleeps.abstract_call) c.section.result c.args.payload.now
    ≡ due None c.args.call.buffer (as_edit (g.E.Sleeps.abstract_call c.args.call.edit c.args.payload.now.message_slot))
due_of g c = ap (λ s. abstract_sched_call (abstract_nested_edit g.E.Sleeps.abstract_call) s c.args.payload.now) c.section.ensures

pub returns-in-None-poll-clause-history : goal.returns-in-None-poll-clause-history
returns-in-None-poll-clause-history g c =
    let at = goal.at.returns-in-None-poll-clause-history g c in
    let none = none g at.In-None in
    sleeps g at.Start None none _ _ _ _ (due_of g at.After-poll) (waits g at.Start None none _ _ _ c.in-None-poll.is) c.poll.ensures.history

pub returns-in-None-poll-clause-follows : goal.returns-in-None-poll-clause-follows
returns-in-None-poll-clause-follows g c = λ step.
    let at = goal.at.returns-in-None-poll-clause-follows g c in
    let none = none g at.In-None in
    follows g at.Start None none _ _ _ _ (due_of g at.After-poll) (waits g at.Start None none _ _ _ c.in-None-poll.is) (c.poll.ensures.follows step)

module _ (g : Over) where
  abbrev left_at : (deferred : Option (DeferredOutcome g.row.E.Denot g.row.E-Response.Denot)) (after : g.row.S.Denot)
      (result : Option (SchedAnswer (Outcome g.row.E-Response.Denot))) (payload : Payload) → Left (Sleeping g.row.E-Out.Denot) (Outcome g.row.E-Out.Denot)
  left_at deferred after result payload =
      left_reported (outcome_in (option_map (abstract_deferred g.E.Sleeps.abstract_answer) deferred)) (g.S.Layer.local after)
      (abstract_result (abstract_sched_answer (abstract_nested_answer g.E.Sleeps.abstract_answer)) result payload)

  abbrev kept_at : (deferred : Option (DeferredOutcome g.row.E.Denot g.row.E-Response.Denot)) (after : g.row.S.Denot)
      (result : Option (Outcome g.row.E-Response.Denot)) (payload : Payload) → Left (Sleeping g.row.E-Out.Denot) (Outcome g.row.E-Out.Denot)
  kept_at deferred after result payload = record {
    local = own_of (option_map (abstract_deferred g.E.Sleeps.abstract_answer) deferred) (g.S.Layer.local after);
    answer = abstract_result (abstract_nested_answer g.E.Sleeps.abstract_answer) result payload;
  }

  -- what is left where it completes
  answers : (c : After-complete g) → left_at c.args.self.now.deferred c.poll.new.self c.poll.result c.poll.new.payload
      ≡ kept_at c.complete.new.deferred c.poll.new.self c.complete.result c.complete.new.payload
  answers c = grind (arith, reported_is)

  answers_home : (c : After-complete_home g) → (let poll = c.send_home in let done = c.complete_home in
      left_at c.args.self.now.deferred poll.new.lower poll.result poll.new.payload ≡ kept_at done.new.deferred poll.new.lower done.result done.new.payload)
  answers_home c =
      let poll = c.send_home in
      let done = c.complete_home in
      let hand = c.hand-hand-in-Some-send_home in
      ap (λ r. left_at c.args.self.now.deferred poll.new.lower r poll.new.payload) c.in-Some-send_home.is
      ∙ reported_is g.E.Sleeps.abstract_answer c.args.self.now.deferred (g.S.Layer.local poll.new.lower) c.args.call.buffer c.kept_edit-kept.result
      c.in-Some-send_home.answer poll.new.payload done.new.payload hand.result done.new.deferred done.result
      (hand.ensures ∙ ap in_hand c.local_here-in-Some-send_home.ensures) done.ensures.deferred done.ensures.answer done.ensures.message_slot

pub returns-in-None-clause-history : goal.returns-in-None-clause-history
returns-in-None-clause-history g c =
    let at = goal.at.returns-in-None-clause-history g c in
    sleeps g at.Start None (none g at.In-None) _ _ _ _ (due_of g at.After-poll) (answers g c) c.poll.ensures.history

pub returns-in-None-clause-follows : goal.returns-in-None-clause-follows
returns-in-None-clause-follows g c = λ step.
    let at = goal.at.returns-in-None-clause-follows g c in
    follows g at.Start None (none g at.In-None) _ _ _ _ (due_of g at.After-poll) (answers g c) (c.poll.ensures.follows step)

-- the thread in the hand is first forwarded to its home CPU

some : (g : Over) (c : In-Some g) → Some c.in-Some.t ≡ (g.S.Layer.local c.args.self.now.lower).hand
some g c = sym c.in-Some.is ∙ (c.hand.ensures ∙ ap in_hand c.local_here.ensures)

pub send_home-requires-clause-call : goal.send_home-requires-clause-call
send_home-requires-clause-call g c =
    let at = goal.at.send_home-requires-clause-call g c in
    may g at.Start (Some c.in-Some.t) (some g at.In-Some)

pub returns-in-None-send_home-clause-history : goal.returns-in-None-send_home-clause-history
returns-in-None-send_home-clause-history g c =
    let at = goal.at.returns-in-None-send_home-clause-history g c in
    let some = some g at.In-Some in
    sleeps g at.Start (Some c.in-Some.t) some _ _ _ _ refl (waits g at.Start _ some _ _ _ c.in-None-send_home.is) c.send_home.ensures.history

pub returns-in-None-send_home-clause-follows : goal.returns-in-None-send_home-clause-follows
returns-in-None-send_home-clause-follows g c = λ step.
    let at = goal.at.returns-in-None-send_home-clause-follows g c in
    let some = some g at.In-Some in
    follows g at.Start (Some c.in-Some.t) some _ _ _ _ refl (waits g at.Start _ some _ _ _ c.in-None-send_home.is) (c.send_home.ensures.follows step)

pub returns-clause-history : goal.returns-clause-history
returns-clause-history g c =
    let at = goal.at.returns-clause-history g c in
    sleeps g at.Start (Some c.in-Some.t) (some g at.In-Some) _ _ _ _ refl (answers_home g at.After-complete_home) c.send_home.ensures.history

pub returns-clause-follows : goal.returns-clause-follows
returns-clause-follows g c = λ step.
    let at = goal.at.returns-clause-follows g c in
    follows g at.Start (Some c.in-Some.t) (some g at.In-Some) _ _ _ _ refl (answers_home g at.After-complete_home) (c.send_home.ensures.follows step)
