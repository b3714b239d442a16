use Rattle.std.proofs.Common.{arith, ◌≡◌, refl, false, Option, Some, None, ◌≢◌, if◌then◌else◌, List, ◌<◌, is_some, option_map, slice_set, ap, sym, ◌∙◌, subst}
use Rattle.std.proofs.Math.Path.{transport}
use Rattle.event_log.specs.{declared.ids.{BufId.BufId, CpuId.CpuId, TheConstants.THREADS}, History.IsLawful}
use Rattle.layer_traits.specs.{declared.{locked.QLockReply.QLockReply, sleeps.Outcome.Outcome}, Layers.{QLocking.lock_caller, QLockLaw.{left_after, locking}}}
use Rattle.layer_traits.specs.{Layers.{QLockLaw.slept_for, Queues.QueueAllowed, SleepLaw.Sleeping}, Blocks.Payloads.{abstract_lock_call, abstract_lock_answer}}
use Rattle.layer_traits.specs.{Blocks.Payloads.abstract_outcome, Polling.Plans.Left, Views.Renaming.{renamed_events, renamed_sched, viewed}}
use Rattle.{layer_traits.proofs.FrameLemmas.{untouched_stays, viewed_stays}, queuing_lock.specs.{Laws.NestedLaws.beneath_the_lock, Nested.as_section}}
use Rattle.queuing_lock.{specs.{Nested.{lock_call, nested_lock_of}, Parts.{DeferredFits, SleptFits, slept_left_by}}, proofs.PartLemmas.{Before, caller_small}}
use Rattle.queuing_lock.proofs.PartLemmas.{sleeper_handed, deferred_after, locks, locks_follow, sleeps_for_none, others_after, beneath_owed, slept_after}
use Rattle.queuing_lock.proofs.{PartLemmas.{slept_asks, slept_reported, under_is}, PollLemmas.{reported_is, reported_told, slept_told}, SleptLemmas.slept_less}
use Rattle.queuing_lock.proofs.qlock.QLockThreadLayerQLockLaw.poll.{Given.Over, Goals.{Start, After-poll, After-complete}}
use Rattle.layer_traits.specs.declared.scheds.SchedCall.TheVariants as call
use Rattle.queuing_lock.proofs.qlock.QLockThreadLayerQLockLaw.poll.Goals as goal

-- what the part knows when the poll begins
abbrev before : (g : Over) (c : Start g) → Before g.F.Locked.protocol (g.S.ThreadLayer.opening c.args.m.now)
before g c =
    let S = g.S.ThreadLayer in
    let met = g.met.S.ThreadLayer in
    let self = c.args.self.now in
    let m = c.args.m.now in
    let cpu = S.cpu_of self.lower in
    let acts = met.own_cpu self.lower m c.requires.coupled.0 in
    let stands = met.stands self.lower m c.requires.coupled.0 in
    record {
      c = cpu;
      b = c.args.call.buffer;
      e = abstract_lock_call g.F.Locked.abstract_call c.args.call.edit c.args.payload.now.message_slot;
      past = S.history m;
      local = S.local self.lower;
      under = S.under_way self.lower;
      slept = self.slept.buffers;
      starts = met.opens m cpu acts;
      moves_legal = met.moves_legal m cpu acts;
      stands = stands.stands;
      lists = stands.lists;
      coupled = c.requires.coupled.1;
      deferred = c.requires.coupled.2;
      caller = c.requires.call.runs;
      may = c.requires.call.may;
    }

-- the caller slept for the lock

pub returns-then-asks_again-clause-framed : goal.returns-then-asks_again-clause-framed
returns-then-asks_again-clause-framed g c =
    let S = g.S.ThreadLayer in
    let m = c.args.m.now in
    let was = before g (goal.at.returns-then-asks_again-clause-framed g c).Start in
    record {
      coupled = (
        c.requires.coupled.0,
        rw c.over.ensures (slept_less g.F.Locked.protocol (viewed nested_lock_of (S.opening m)) was.c c.caller-t.result
            (renamed_events lock_call was.past) was.slept
            was.coupled),
        was.deferred,
      );
      cpu = refl;
      stays = untouched_stays (λ k. viewed nested_lock_of (S.opening k)) S.machine_id S.room S.ActsFor m;
      others = λ p other coupled. coupled;
      holders = λ d other acts held. held;
    }

pub returns-then-asks_again-clause-history : goal.returns-then-asks_again-clause-history
returns-then-asks_again-clause-history g c =
    let was = before g (goal.at.returns-then-asks_again-clause-history g c).Start in
    let some =
    slept_asks was g.F.Locked.abstract_call c.args.payload.now.message_slot c.args.call.edit refl ∙ (sym c.asks_again.ensures ∙ c.if-asks_again.true) in
    let over = c.over.ensures ∙ ap (λ t. slice_set was.slept t.0 None) (c.caller-t.ensures c.args.payload.now.message_slot) in
    rw over (sleeper_handed was (λ d. g.S.ThreadLayer.ActsFor c.args.m.now d) _ refl some was.may)

-- it calls the lower layer

-- a caller of the lower layer did not sleep for the lock
awake : (g : Over) (c : goal.After-poll-arg-3-1 g) → (let was = before g (goal.at.poll-requires-clause-call g c).Start in
    is_some (slept_for was.slept (lock_caller g.F.Locked.protocol was.e)) ≡ false)
awake g c = grind (arith, slept_asks)

pub poll-requires-clause-call : goal.poll-requires-clause-call
poll-requires-clause-call g c = beneath_owed (before g (goal.at.poll-requires-clause-call g c).Start) (awake g c)

pub complete-requires : goal.complete-requires
complete-requires g c =
    subst (λ t. t.0 < THREADS) (sym (c.caller-t.ensures c.args.payload.now.message_slot)) (caller_small (before g (goal.at.complete-requires g c).Start))

-- the lower layer's poll, seen here

module _ (g : Over) (c : After-poll g) where
  open g.S.ThreadLayer use {ActsFor, opening, local, history, under_way}
  open g.F.Locked use {protocol}

  abbrev was : Before protocol (opening c.args.m.now)
  was = before g (goal.at.poll-requires-clause-call g c.before).Start

  -- what it returned, as it is reported
  abbrev abstract_answer : Outcome (QLockReply g.row.F-Response.Denot) → Outcome (QLockReply g.row.F-Out.Denot)
  abstract_answer o = abstract_outcome (abstract_lock_answer g.F.Locked.abstract_answer) o c.poll.new.payload.message_slot

  abbrev gave : Left (Sleeping (QLockReply g.row.F-Out.Denot)) (Outcome (QLockReply g.row.F-Out.Denot))
  gave = record { local = local c.poll.new.self; answer = option_map abstract_answer c.poll.result }

  acts : ActsFor c.args.m.now was.c
  acts = g.met.S.ThreadLayer.own_cpu c.args.self.now.lower c.args.m.now c.requires.coupled.0

  -- the log is still lawful
  lawful : IsLawful (QueueAllowed (beneath_the_lock protocol (opening c.args.m.now))) (history c.poll.new.m)
  lawful = rw c.poll.ensures.framed.stays.opening at (g.met.S.ThreadLayer.lawful c.poll.new.m was.c
      (c.poll.ensures.framed.stays.acts was.c acts))

  -- the call that is pending below is pending here
  call_here : option_map (renamed_sched lock_call) (under_way c.poll.new.self) ≡ (if is_some gave.answer then None else Some (call.OnBuffer was.b was.e))
  call_here = under_is abstract_answer (under_way c.poll.new.self) c.poll.result (call.OnBuffer was.b (as_section was.e)) c.poll.ensures.call

  -- what is deferred agrees with it
  deferred : DeferredFits (option_map (renamed_sched lock_call) (under_way c.poll.new.self)) gave.local.deferred gave.local.threads.hand
  deferred =
      subst (λ u. DeferredFits u gave.local.deferred gave.local.threads.hand) (sym call_here) (deferred_after was (awake g c.before) c.poll.ensures.history)

  -- what other CPUs record of sleepers still agrees
  others : (d : CpuId) → d ≢ was.c → ActsFor c.args.m.now d → (slept : List (Option BufId))
      → SleptFits protocol (viewed nested_lock_of (opening c.args.m.now)) d (renamed_events lock_call was.past) slept
      → SleptFits protocol (viewed nested_lock_of (opening c.poll.new.m)) d (renamed_events lock_call (history c.poll.new.m)) slept
  others d apart acts slept coupled =
      transport (λ i. SleptFits protocol (viewed nested_lock_of (sym c.poll.ensures.framed.stays.opening i)) d (renamed_events lock_call (history c.poll.new.m))
      slept) (others_after protocol (opening c.args.m.now) d was.c apart c.poll.ensures.history acts lawful slept coupled)

-- the call continues

went_on : (g : Over) (c : goal.In-None g) → (let p = (goal.at.returns-in-None-clause-history g c).After-poll in let gave = gave g p in let was = was g p in
    locking gave.local was.slept None ≡ left_after (lock_caller g.F.Locked.protocol was.e) was.b was.slept gave.local gave.answer)
went_on g c = grind arith

pub returns-in-None-clause-framed : goal.returns-in-None-clause-framed
returns-in-None-clause-framed g c =
    let S = g.S.ThreadLayer in
    let p = (goal.at.returns-in-None-clause-framed g c).After-poll in
    let said = c.poll.ensures in
    record {
      coupled = (
        said.framed.coupled,
        transport (λ i. SleptFits g.F.Locked.protocol (viewed nested_lock_of (sym said.framed.stays.opening i)) (sym said.framed.cpu i)
            (renamed_events lock_call (S.history c.poll.new.m)) (was g p).slept)
            (slept_after (was g p) (awake g p.before) said.history (acts g p) (lawful g p)),
        deferred g p,
      );
      cpu = said.framed.cpu;
      stays = viewed_stays (viewed nested_lock_of) said.framed.stays;
      others = λ q apart coupled. (
        said.framed.others q.lower apart coupled.0,
        others g p (S.cpu_of q.lower) apart (g.met.S.ThreadLayer.own_cpu q.lower c.args.m.now coupled.0) q.slept.buffers coupled.1,
        coupled.2,
      );
      holders = said.framed.holders;
    }

pub returns-in-None-clause-history : goal.returns-in-None-clause-history
returns-in-None-clause-history g c =
    let p = (goal.at.returns-in-None-clause-history g c).After-poll in
    locks (was g p) (awake g p.before) c.poll.ensures.history _ _ (call_here g p) (went_on g c)

pub returns-in-None-clause-follows : goal.returns-in-None-clause-follows
returns-in-None-clause-follows g c = λ step.
    let S = g.S.ThreadLayer in
    let p = (goal.at.returns-in-None-clause-follows g c).After-poll in
    let was = was g p in
    locks_follow g.F.Locked.protocol (S.opening c.args.m.now) (S.ActsFor c.args.m.now) was.c (S.acts c.args.m.now) (S.acts c.poll.new.m) was.local was.slept
    was.b
    was.e (gave g p) (sleeps_for_none was (awake g p.before)) _ (went_on g c) (c.poll.ensures.follows step)

-- the section completes

module _ (g : Over) (c : After-complete g) where
  open g.F.Locked use {protocol}

  abbrev p : After-poll g
  p = (goal.at.returns-in-Some-clause-framed g c).After-poll

  keeps : c.complete.new.self.buffers ≡ slept_left_by (lock_caller protocol (was g p).e) (was g p).b (was g p).slept (abstract_answer g p c.in-Some.outcome)
  keeps = grind (arith, slept_told)

  answers : locking (gave g p).local c.complete.new.self.buffers (option_map (abstract_answer g p) c.complete.result)
      ≡ left_after (lock_caller protocol (was g p).e) (was g p).b (was g p).slept (gave g p).local (gave g p).answer
  answers = grind (arith, keeps, reported_told, reported_is)

pub returns-in-Some-clause-framed : goal.returns-in-Some-clause-framed
returns-in-Some-clause-framed g c =
    let S = g.S.ThreadLayer in
    let p = p g c in
    let was = was g p in
    let said = c.poll.ensures in
    record {
      coupled = (
        said.framed.coupled,
        transport (λ i. SleptFits g.F.Locked.protocol (viewed nested_lock_of (sym said.framed.stays.opening i)) (sym said.framed.cpu i)
            (renamed_events lock_call (S.history c.poll.new.m)) (sym (keeps g c) i))
            (slept_reported was (awake g p.before) said.history (acts g p) (lawful g p) (abstract_answer g p c.in-Some.outcome)
            (ap (option_map (abstract_answer g p)) c.in-Some.is)),
        deferred g p,
      );
      cpu = said.framed.cpu;
      stays = viewed_stays (viewed nested_lock_of) said.framed.stays;
      others = λ q apart coupled. (
        said.framed.others q.lower apart coupled.0,
        others g p (S.cpu_of q.lower) apart (g.met.S.ThreadLayer.own_cpu q.lower c.args.m.now coupled.0) q.slept.buffers coupled.1,
        coupled.2,
      );
      holders = said.framed.holders;
    }

pub returns-in-Some-clause-history : goal.returns-in-Some-clause-history
returns-in-Some-clause-history g c =
    let p = p g c in
    locks (was g p) (awake g p.before) c.poll.ensures.history _ _ (call_here g p) (answers g c)

pub returns-in-Some-clause-follows : goal.returns-in-Some-clause-follows
returns-in-Some-clause-follows g c = λ step.
    let S = g.S.ThreadLayer in
    let p = p g c in
    let was = was g p in
    locks_follow g.F.Locked.protocol (S.opening c.args.m.now) (S.ActsFor c.args.m.now) was.c (S.acts c.args.m.now) (S.acts c.poll.new.m) was.local was.slept
    was.b
    was.e (gave g p) (sleeps_for_none was (awake g p.before)) _ (answers g c) (c.poll.ensures.follows step)
