use Rattle.std.proofs.Common.{arith, ◌≡◌, false, refl, Option, Some, None, is_some, if◌then◌else◌, option_map, slice_set, ap, sym, ◌∙◌, subst, subst₂}
use Rattle.std.proofs.Math.Path.{transport}
use Rattle.{event_log.specs.{declared.ids.LockId.LockId, History.IsLawful}, layer_traits.specs.declared.locked.QLockReply.QLockReply}
use Rattle.layer_traits.specs.declared.{queue_edits.QueueBlock.QueueBlock, scheds.SchedCall.TheVariants.OnBuffer, sleeps.Outcome.Outcome}
use Rattle.layer_traits.specs.{Blocks.Payloads.{abstract_lock_call, abstract_sched_call, abstract_sched_answer, abstract_result}, Layers.QLocking.lock_caller}
use Rattle.layer_traits.specs.Layers.{QLockLaw.{LockPolled, locking, slept_for}, Queues.QueueAllowed, Scheds.{MaySched, SchedPolled}, SleepLaw.MaySleep}
use Rattle.layer_traits.specs.{Layers.SleepLaw.{SleepPolled, Sleeping, due}, Polling.Plans.Left, Views.Renaming.{renamed_events, viewed}}
use Rattle.layer_traits.proofs.{FrameLemmas.{untouched_stays, viewed_stays}, KernelRenaming.starts_viewed, SleepLemmas.HandDefers}
use Rattle.queuing_lock.specs.{declared.edits.QLockBlock.QLockBlock, Laws.NestedLaws.{at_the_lock, beneath_the_lock}, Parts.{DeferredFits, SleptFits}}
use Rattle.queuing_lock.{specs.Nested.{as_section, busy_rules}, proofs.PartLemmas.{Before, beneath_owed, caller_small, deferred_after, locks, others_after}}
use Rattle.queuing_lock.proofs.{PartLemmas.{sleeper_handed, slept_after, slept_reported}, PollLemmas.slept_told, SleptLemmas.slept_less}
use Rattle.sleep_wakeup.specs.{declared.edits.SleepBlock.SleepBlock, Laws.NestedLaws.{beneath, nested_lawful, nested_lists, nested_moves_legal, nested_stands}}
use Rattle.sleep_wakeup.{specs.{Nested.{slept_edit, state_of}, Parts.{as_edit, outcome_in, own_of, under_of}}, proofs.PollLemmas.{hand_defers, nested_may}}
use Rattle.{sleep_wakeup.proofs.PollLemmas.nested_sleeps, plain_layers.specs.{Kernels.{call_room, calls_in, no_site, opening_of}, QLocks.{HasLocks, KeptFits}}}
use Rattle.plain_layers.specs.QLocks.{answered_after, calls_of, handed_on, kept_after, abstract_kept, locks_of, noted_after, parcel_after, abstract_plain_call}
use Rattle.plain_layers.{specs.QLocks.{abstract_plain_answer, tell, told_answer, told_kept, under_kept}, proofs.QLockLemmas.{done_keeps, due_meant, left_is}}
use Rattle.plain_layers.proofs.{QLockLemmas.{noted_is, sends_home, under_is}, qlocks.PlainQLockThreadLayerQLockLaw.poll.{Given.Over, Goals.Start}}
use Rattle.plain_layers.proofs.qlocks.PlainQLockThreadLayerQLockLaw.poll.Goals.{After-due-step, After-hand_on}
use Rattle.plain_layers.proofs.qlocks.PlainQLockThreadLayerQLockLaw.poll.Goals as goal

-- what the part knows when the poll begins
abbrev before : (g : Over) (c : Start g) → Before g.F.Locked.protocol (viewed state_of (opening_of c.args.m.now.opening))
before g c =
    let self = c.args.self.now in
    let past = calls_in c.args.m.now in
    let protocol = busy_rules g.F.Locked.protocol in
    let opening = opening_of c.args.m.now.opening in
    let coupled = c.requires.coupled in
    record {
      c = self.sched.cpu;
      b = c.args.call.buffer;
      e = abstract_lock_call g.F.Locked.abstract_call c.args.call.edit c.args.payload.now.message_slot;
      past = renamed_events slept_edit past;
      local = own_of (abstract_kept g.F.Locked.abstract_answer self.kept) self.sched.local;
      under = under_of (abstract_kept g.F.Locked.abstract_answer self.kept) None;
      slept = self.slept;
      starts = starts_viewed state_of opening coupled.0.1.starts;
      moves_legal = nested_moves_legal protocol opening past coupled.0.1.lawful;
      stands = nested_stands protocol opening self.sched.cpu past self.sched.local coupled.0.2.stands;
      lists = nested_lists protocol opening past coupled.0.1.lawful coupled.1;
      coupled = coupled.2;
      deferred = coupled.3.1;
      caller = c.requires.call.runs;
      may = c.requires.call.may;
    }

pub returns-then-has_slept-clause-history : goal.returns-then-has_slept-clause-history
returns-then-has_slept-clause-history g c =
    let was = before g (goal.at.returns-then-has_slept-clause-history g c).Start in
    let t = c.caller-t.ensures c.args.payload.now.message_slot in
    let some = ap (λ u. is_some (slept_for was.slept u)) (sym t) ∙ (sym c.has_slept.ensures ∙ c.if-has_slept.true) in
    rw (c.wake_up.ensures ∙ ap (λ u. slice_set was.slept u.0 None) t)
    (sleeper_handed was (λ d. HasLocks g.F.Locked.protocol c.args.m.now d) _ refl some was.may)

pub returns-then-has_slept-clause-framed : goal.returns-then-has_slept-clause-framed
returns-then-has_slept-clause-framed g c =
    let m = c.args.m.now in
    record {
      coupled = (
        c.requires.coupled.0,
        c.requires.coupled.1,
        rw c.wake_up.ensures (slept_less g.F.Locked.protocol (locks_of (opening_of m.opening)) c.args.self.now.sched.cpu c.caller-t.result
            (calls_of (calls_in m)) c.args.self.now.slept c.requires.coupled.2),
        c.requires.coupled.3,
      );
      cpu = refl;
      stays = untouched_stays (λ k. locks_of (opening_of k.opening)) (λ k. no_site) (λ k. call_room k) (λ k d. HasLocks g.F.Locked.protocol k d) m;
      others = λ p other coupled. coupled;
      holders = λ d other acts held. held;
    }

awake : (g : Over) (c : After-due-step g) → is_some (slept_for c.args.self.now.slept
    (lock_caller g.F.Locked.protocol (abstract_lock_call g.F.Locked.abstract_call c.args.call.edit c.args.payload.now.message_slot))) ≡ false
awake g c = grind arith

step_is : (g : Over) (c : After-due-step g) → abstract_sched_call (abstract_plain_call g.F.Locked.abstract_call) c.due-step.result c.args.payload.now
    ≡ due c.args.self.now.sched.local.hand c.args.call.buffer
    (as_edit (as_section (abstract_lock_call g.F.Locked.abstract_call c.args.call.edit c.args.payload.now.message_slot)))
step_is g c = grind (arith, due_meant)

pub poll-requires-clause-call : goal.poll-requires-clause-call
poll-requires-clause-call g c =
    let at = goal.at.poll-requires-clause-call g c in
    let self = c.args.self.now in
    let m = c.args.m.now in
    let coupled = c.requires.coupled in
    let protocol = busy_rules g.F.Locked.protocol in
    let was = before g at.Start in
    subst (λ s. MaySched (beneath protocol (opening_of m.opening)) self.sched.cpu (calls_in m) self.sched.local None s) (sym (step_is g at.After-due-step))
    (nested_may protocol (opening_of m.opening) self.sched.cpu (calls_in m) self.sched.local was.b (as_section was.e) coupled.0.1.starts coupled.0.1.lawful
    coupled.1
    coupled.0.2.stands (abstract_kept g.F.Locked.abstract_answer self.kept) None self.sched.local.hand refl coupled.3.0
    (beneath_owed was (awake g at.After-due-step)))

pub hand_on-requires : goal.hand_on-requires
hand_on-requires g c = grind (arith, caller_small)

module _ (g : Over) (c : After-hand_on g) where
  open g.F.Locked use {protocol, abstract_answer}

  abbrev at : After-due-step g
  at = (goal.at.hand_on-requires g c.before).After-due-step

  abbrev opening : LockId → Option (QueueBlock (SleepBlock (QLockBlock g.row.F-Block.Denot)))
  opening = opening_of c.args.m.now.opening

  abbrev was : Before protocol (viewed state_of opening)
  was = before g (goal.at.hand_on-requires g c.before).Start

  polled : SchedPolled (beneath (busy_rules protocol) opening) (λ d. HasLocks protocol c.args.m.now d) was.c
      (due c.args.self.now.sched.local.hand was.b (as_edit (as_section was.e)))
      (Some (abstract_sched_answer (abstract_plain_answer abstract_answer) c.unwrap-answer.result c.poll.new.payload)) (calls_in c.args.m.now)
      (calls_in c.poll.new.m)
      c.args.self.now.sched.local c.poll.new.self.local
  polled = subst₂ (λ s r. SchedPolled (beneath (busy_rules protocol) opening) (λ d. HasLocks protocol c.args.m.now d) was.c s r (calls_in c.args.m.now)
      (calls_in c.poll.new.m) c.args.self.now.sched.local c.poll.new.self.local)
      (step_is g at) (ap (λ r. abstract_result (abstract_sched_answer (abstract_plain_answer abstract_answer)) r c.poll.new.payload) c.unwrap-answer.ensures)
      c.poll.ensures.history

  defers : HandDefers c.args.self.now.sched.local.hand (outcome_in (abstract_kept abstract_answer c.args.self.now.kept))
  defers = hand_defers (abstract_kept abstract_answer c.args.self.now.kept) None c.args.self.now.sched.local.hand was.b (as_section was.e)
      (MaySleep (beneath_the_lock protocol (viewed state_of opening)) was.c was.past was.local.threads was.b (as_section was.e)) c.requires.coupled.3.0
      (beneath_owed was (awake g at)) (λ may. may.hand)

  -- what the scheduler's result leaves; its poll is one of the section
  abbrev got : Left (Sleeping (QLockReply g.row.F-Out.Denot)) (Outcome (QLockReply g.row.F-Out.Denot))
  got = record {
    local = own_of (told_kept abstract_answer c.poll.new.self.local was.b was.e c.unwrap-answer.result c.poll.new.payload.message_slot) c.poll.new.self.local;
    answer = told_answer abstract_answer c.poll.new.self.local c.args.self.now.kept c.unwrap-answer.result c.poll.new.payload.message_slot;
  }

  sleeps : SleepPolled (beneath_the_lock protocol (viewed state_of opening)) (λ d. HasLocks protocol c.args.m.now d) was.c was.b (as_section was.e) was.past
      (renamed_events slept_edit (calls_in c.poll.new.m)) was.local got
  sleeps = subst (λ l. SleepPolled (beneath_the_lock protocol (viewed state_of opening)) (λ d. HasLocks protocol c.args.m.now d) was.c was.b (as_section was.e)
      was.past (renamed_events slept_edit (calls_in c.poll.new.m)) was.local l)
      (left_is abstract_answer c.poll.new.self.local was.b was.e c.args.self.now.kept c.unwrap-answer.result c.poll.new.payload)
      (nested_sleeps (busy_rules protocol) opening (λ d. HasLocks protocol c.args.m.now d) was.c _ (calls_in c.args.m.now) (calls_in c.poll.new.m)
      c.args.self.now.sched.local c.poll.new.self.local was.b (as_section was.e) (abstract_kept abstract_answer c.args.self.now.kept)
      c.args.self.now.sched.local.hand refl defers
      polled)

  ends : under_kept (told_kept abstract_answer c.poll.new.self.local was.b was.e c.unwrap-answer.result c.poll.new.payload.message_slot)
      ≡ (if is_some got.answer then None else Some (OnBuffer was.b was.e))
  ends = grind (arith, under_is, done_keeps, defers)

  -- what is kept, recorded and returned is what the law says
  kept_is : c.take_up-outcome.new.kept
      ≡ kept_after c.poll.new.self.local.hand was.b (as_edit (as_section was.e)) c.unwrap-answer.result c.poll.new.payload.message_slot
  kept_is = grind arith

  outcome_is : c.take_up-outcome.result ≡ answered_after c.args.self.now.kept c.poll.new.self.local.hand c.unwrap-answer.result
  outcome_is = c.take_up-outcome.ensures.answer ∙ ap (λ h. answered_after c.args.self.now.kept h c.unwrap-answer.result) c.hand_of-hand.ensures

  slept_is : c.hand_on.new.slept ≡ noted_after (lock_caller protocol was.e) was.b was.slept (answered_after c.args.self.now.kept c.poll.new.self.local.hand
      c.unwrap-answer.result)
  slept_is = c.hand_on.ensures.slept ∙ λ i. noted_after (c.caller-t.ensures c.args.payload.now.message_slot i) was.b was.slept (outcome_is i)

  lawful : IsLawful (QueueAllowed (beneath_the_lock protocol (viewed state_of opening))) (renamed_events slept_edit (calls_in c.poll.new.m))
  lawful = nested_lawful (busy_rules protocol) opening (calls_in c.poll.new.m) (subst (λ o. IsLawful (QueueAllowed (beneath (busy_rules protocol) o))
      (calls_in c.poll.new.m)) c.poll.ensures.framed.stays.opening c.poll.ensures.framed.coupled.1.lawful)

  -- a thread that slept for a lock owns it or still sleeps, and a queued caller sleeps
  slept_by : (r : Option (Outcome (QLockReply g.row.F-Response.Denot)))
      → got.answer ≡ option_map (tell abstract_answer (parcel_after c.args.self.now.kept c.unwrap-answer.result c.poll.new.payload.message_slot)) r
      → SleptFits protocol (locks_of opening) was.c (calls_of (calls_in c.poll.new.m)) (noted_after (lock_caller protocol was.e) was.b was.slept r)
  slept_by None is = slept_after was (awake g at) sleeps (c.requires.coupled.0.0, c.requires.coupled.0.1) lawful
  slept_by (Some o) is = subst (λ l. SleptFits protocol (locks_of opening) was.c (calls_of (calls_in c.poll.new.m)) l)
      (sym (slept_told abstract_answer _ (lock_caller protocol was.e) was.b was.slept o.out))
      (slept_reported was (awake g at) sleeps (c.requires.coupled.0.0, c.requires.coupled.0.1) lawful _ is)

pub returns-clause-history : goal.returns-clause-history
returns-clause-history g c =
    let p = (goal.at.returns-clause-history g c).After-hand_on in
    let was = was g p in
    let abstract_answer = g.F.Locked.abstract_answer in
    transport (λ i. LockPolled g.F.Locked.protocol (at_the_lock g.F.Locked.protocol (viewed state_of (opening g p)))
    (λ d. HasLocks g.F.Locked.protocol c.args.m.now d)
    was.c was.b was.e (slept_for was.slept (lock_caller g.F.Locked.protocol was.e)) (calls_of (calls_in c.args.m.now)) (calls_of (calls_in c.poll.new.m))
    (record { sleep = was.local; slept = was.slept }) (under_kept (abstract_kept abstract_answer (sym (kept_is g p) i)))
    (locking (own_of (abstract_kept abstract_answer (sym (kept_is g p) i)) c.poll.new.self.local) (sym (slept_is g p) i)
    (option_map (tell abstract_answer (sym c.take_up-outcome.ensures.message_slot i))
    (sym (c.hand_on.ensures.answer ∙ ap (λ r. handed_on r) (outcome_is g p)) i))))
    (locks was (awake g (at g p)) (sleeps g p) _ _ (ends g p) (sym (noted_is abstract_answer c.poll.new.self.local was.b was.e
    (lock_caller g.F.Locked.protocol was.e) was.slept (got g p).local _ (answered_after c.args.self.now.kept c.poll.new.self.local.hand
    c.unwrap-answer.result))))

pub returns-clause-framed : goal.returns-clause-framed
returns-clause-framed g c =
    let p = (goal.at.returns-clause-framed g c).After-hand_on in
    let protocol = g.F.Locked.protocol in
    let was = was g p in
    let said = c.poll.ensures.framed in
    let nobody = rw (← said.stays.opening) at c.requires.coupled.1 in
    record {
      coupled = (
        said.coupled,
        nobody,
        transport (λ i. SleptFits protocol (locks_of (sym said.stays.opening i)) (sym said.cpu i) (calls_of (calls_in c.poll.new.m)) (sym (slept_is g p) i))
            (slept_by g p (answered_after c.args.self.now.kept c.poll.new.self.local.hand c.unwrap-answer.result) refl),
        subst (λ k. KeptFits (abstract_kept g.F.Locked.abstract_answer k) c.poll.new.self.local.hand) (sym (kept_is g p)) (
          sends_home g.F.Locked.abstract_answer c.poll.new.self.local was.b was.e c.unwrap-answer.result c.poll.new.payload.message_slot,
          subst (λ u. DeferredFits u (got g p).local.deferred c.poll.new.self.local.hand) (sym (ends g p)) (deferred_after was (awake g (at g p)) (sleeps g p)),
        ),
      );
      cpu = said.cpu;
      stays = viewed_stays (λ o. locks_of o) said.stays;
      others = λ q apart theirs. (
        said.others q.sched apart theirs.0,
        nobody,
        transport (λ i. SleptFits protocol (locks_of (sym said.stays.opening i)) q.sched.cpu (calls_of (calls_in c.poll.new.m)) q.slept)
            (others_after protocol (viewed state_of (opening g p)) q.sched.cpu was.c apart (sleeps g p) (theirs.0.0, theirs.0.1) (lawful g p) q.slept theirs.2),
        theirs.3,
      );
      holders = λ d other acts held. held;
    }
