use Rattle.std.proofs.{Common.{◌≡◌, ◌≢◌, List, Option, false, Some, None, refl, ap, sym, ◌∙◌, subst}, lemmas.Bool.ne_eqb}
use Rattle.event_log.{specs.{History.{IsLawful, same_cpu}, declared.ids.CpuId.CpuId}, proofs.Same.cpu_numbered}
use Rattle.layer_traits.specs.declared.{queue_edits.QueueAnswer.QueueAnswer, queues.QueueCall.QueueCall, scheds.SchedCall.SchedCall}
use Rattle.layer_traits.specs.Blocks.{Payloads.{abstract_queue_call, abstract_queue_answer, abstract_sched_call, abstract_result}, QueueBlocks.StartsWell}
use Rattle.layer_traits.specs.{Blocks.QueueBlocks.homes_in, Threads.Places.Threads, Layers.{Queues.{QueueAllowed, kernel}, Scheds.{own_by, queue_call}}}
use Rattle.{layer_traits.proofs.FrameLemmas.untouched_stays, scheduler.{specs.{Owns.local_after, Parts.SchedPartFits}, proofs.StepLemmas.{call_may, done_fits}}}
use Rattle.scheduler.proofs.{StepLemmas.{finish_ok, local_fits, local_polled, may_take, other_fits, waiting_fits}, sched.SchedLayerSchedLaw.poll.Given.Over}
use Rattle.scheduler.proofs.sched.SchedLayerSchedLaw.poll.Goals.{Start, In-Err, In-Ok, After-pass_locally, After-poll}
use Rattle.scheduler.proofs.sched.SchedLayerSchedLaw.poll.Goals as goal

-- what the part knows of the machine when the poll begins
module _ (g : Over) (c : Start g) where
  open g.Q.Layer use {ActsFor, opening, history}

  acts : ActsFor c.args.m.now c.args.self.now.cpu
  acts = subst (ActsFor c.args.m.now) c.requires.coupled.1.cpu (g.met.Q.Layer.own_cpu c.args.self.now.lower c.args.m.now c.requires.coupled.0)

  opens : StartsWell (opening c.args.m.now)
  opens = g.met.Q.Layer.opens c.args.m.now c.args.self.now.cpu acts

  lawful : IsLawful (QueueAllowed (kernel g.E.SplitEdit.protocol g.E.Moves.moves (opening c.args.m.now))) (history c.args.m.now)
  lawful = g.met.Q.Layer.lawful c.args.m.now c.args.self.now.cpu acts

-- the call, and the one at the shared queues that it is
abbrev call_of : (g : Over) (c : Start g) → SchedCall g.row.E.Denot
call_of g c = abstract_sched_call g.E.SplitEdit.abstract_call c.args.call c.args.payload.now

abbrev step_of : (g : Over) (c : In-Ok g) → QueueCall g.row.E.Denot
step_of g c = abstract_queue_call g.E.SplitEdit.abstract_call c.in-Ok.step c.args.payload.now

is_shared : (g : Over) (c : In-Ok g) → queue_call (homes_in (g.Q.Layer.opening c.args.m.now)) c.args.self.now.cpu
    (abstract_sched_call g.E.SplitEdit.abstract_call c.args.call c.args.payload.now) ≡ Some (step_of g c)
is_shared g c = rw (c.requires.coupled.1.homes ∙ sym c.as_slice-homes.ensures.value) (c.in-Ok.ensures.shared c.args.payload.now)

pub pass_locally-requires : goal.pass_locally-requires
pass_locally-requires g c =
    let at = goal.at.pass_locally-requires g c in
    finish_ok _ _ _ g.met.E.Moves.wakes_sleepers (opens g at.Start) _ _ _ (lawful g at.Start) c.requires.coupled.1.stands

pub poll-requires-clause-call : goal.poll-requires-clause-call
poll-requires-clause-call g c =
    let at = goal.at.poll-requires-clause-call g c in
    call_may _ _ _ g.met.E.Moves.wakes_sleepers (opens g at.Start) (lawful g at.Start) c.requires.coupled.1 (call_of g at.Start) c.requires.call
    (step_of g at.In-Ok) (is_shared g at.In-Ok)

-- the poll of the lower layer
module _ (g : Over) (c : After-poll g) where
  open g.Q.Layer use {ActsFor, Coupled, cpu_of, opening, history, under_way}

  abbrev answer : Option (QueueAnswer g.row.E-Out.Denot)
  answer = abstract_result (abstract_queue_answer g.E.SplitEdit.abstract_answer) c.poll.result c.poll.new.payload

  -- its log is lawful for each CPU for which it acts
  legal : (cpu : CpuId) → ActsFor c.args.m.now cpu
      → IsLawful (QueueAllowed (kernel g.E.SplitEdit.protocol g.E.Moves.moves (opening c.args.m.now))) (history c.poll.new.m)
  legal cpu acts = rw c.poll.ensures.framed.stays.opening at (g.met.Q.Layer.lawful c.poll.new.m cpu (c.poll.ensures.framed.stays.acts cpu acts))

  -- the parts of other CPUs still agree
  others : (lower : g.row.Q.Denot) (cpu : CpuId) (homes : List CpuId) (local : Threads) → cpu ≢ c.args.self.now.cpu → Coupled lower c.args.m.now
      → SchedPartFits g.E.SplitEdit.protocol g.E.Moves.moves (opening c.args.m.now) cpu (cpu_of lower) homes (under_way lower) (history c.args.m.now) local
      → Coupled lower c.poll.new.m
      × SchedPartFits g.E.SplitEdit.protocol g.E.Moves.moves (opening c.poll.new.m) cpu (cpu_of lower) homes (under_way lower) (history c.poll.new.m) local
  others lower cpu homes local other coupled part =
      let at = goal.at.poll-requires-clause-call g c.before in
      let self = c.args.self.now in
      let said = c.poll.ensures in
      let acts = subst (ActsFor c.args.m.now) part.cpu (g.met.Q.Layer.own_cpu lower c.args.m.now coupled) in
      let apart : same_cpu (cpu_of self.lower) cpu ≡ false = ap (λ d. same_cpu d cpu) c.requires.coupled.1.cpu
      ∙ ne_eqb self.cpu.0 cpu.0 (λ e. other (sym (ap cpu_numbered e))) in (
        said.framed.others lower (λ e. other (sym part.cpu ∙ (e ∙ c.requires.coupled.1.cpu))) coupled,
        rw said.framed.stays.opening
            (other_fits _ _ _ g.met.E.Moves.wakes_sleepers (opens g at.Start) (ActsFor c.args.m.now) (cpu_of self.lower) cpu _ _ _ (step_of g at.In-Ok) answer
            _ _ local acts apart said.history (legal cpu acts) part),
      )

pub take_answer-requires : goal.take_answer-requires
take_answer-requires g c =
    let at = goal.at.take_answer-requires g c in
    may_take _ _ _ g.met.E.Moves.wakes_sleepers (opens g at.Start) (lawful g at.Start) c.requires.coupled.1 (call_of g at.Start) c.requires.call
    (step_of g at.In-Ok) (is_shared g at.In-Ok) (acts g at.Start) c.in-Some.ensures.history (legal g at.After-poll c.args.self.now.cpu (acts g at.Start))

-- a call that touches nothing shared

is_local : (g : Over) (c : In-Err g) → queue_call (homes_in (g.Q.Layer.opening c.args.m.now)) c.args.self.now.cpu
    (abstract_sched_call g.E.SplitEdit.abstract_call c.args.call c.args.payload.now) ≡ None
is_local g c = rw (c.requires.coupled.1.homes ∙ sym c.as_slice-homes.ensures.value) (c.in-Err.ensures.local_is c.args.payload.now).1

passed : (g : Over) (c : After-pass_locally g) → c.pass_locally.new.local
    ≡ local_after (abstract_sched_call g.E.SplitEdit.abstract_call c.args.call c.args.payload.now) c.args.self.now.local
passed g c = c.pass_locally.ensures ∙ ap (λ s. local_after s c.args.self.now.local) (sym (c.in-Err.ensures.local_is c.args.payload.now).0)

pub returns-in-Err-clause-framed : goal.returns-in-Err-clause-framed
returns-in-Err-clause-framed g c =
    let at = goal.at.returns-in-Err-clause-framed g c in
    let Q = g.Q.Layer in
    record {
      coupled = (
        c.requires.coupled.0,
        rw (passed g at.After-pass_locally)
            (local_fits _ _ _ g.met.E.Moves.wakes_sleepers (opens g at.Start) (lawful g at.Start) c.requires.coupled.1 (call_of g at.Start) c.requires.call
            (is_local g at.In-Err)),
      );
      cpu = refl;
      stays = untouched_stays Q.opening Q.machine_id Q.room Q.ActsFor c.args.m.now;
      others = λ p other coupled. coupled;
      holders = λ d other acts held. held;
    }

pub returns-in-Err-clause-history : goal.returns-in-Err-clause-history
returns-in-Err-clause-history g c =
    let at = goal.at.returns-in-Err-clause-history g c in
    rw (passed g at.After-pass_locally) (local_polled _ _ _ g.met.E.Moves.wakes_sleepers (opens g at.Start) (lawful g at.Start) c.requires.coupled.1
    (call_of g at.Start) c.requires.call (is_local g at.In-Err) (g.Q.Layer.ActsFor c.args.m.now))

-- a poll that waits

pub returns-in-None-clause-framed : goal.returns-in-None-clause-framed
returns-in-None-clause-framed g c =
    let at = goal.at.returns-in-None-clause-framed g c in
    let Q = g.Q.Layer in
    let self = c.args.self.now in
    let part = c.poll.new.self in
    let n = c.poll.new.m in
    let said = c.in-None.ensures in
    record {
      coupled = (
        said.framed.coupled,
        rw said.framed.stays.opening
            (waiting_fits _ _ _ g.met.E.Moves.wakes_sleepers (opens g at.Start) (lawful g at.Start) c.requires.coupled.1 (call_of g at.Start) c.requires.call
            (step_of g at.In-Ok) (is_shared g at.In-Ok) _ (acts g at.Start) (Q.history n) said.history
            (legal g at.After-poll self.cpu (acts g at.Start)) (Q.cpu_of part)
            (Q.under_way part) said.framed.cpu said.call),
      );
      cpu = refl;
      stays = said.framed.stays;
      others = λ p other theirs. others g at.After-poll p.lower p.cpu p.homes.items p.local other theirs.0 theirs.1;
      holders = λ d other acts held. said.framed.holders d (λ e. other (e ∙ c.requires.coupled.1.cpu)) acts held;
    }

-- a poll that completes its call

pub returns-in-Some-clause-framed : goal.returns-in-Some-clause-framed
returns-in-Some-clause-framed g c =
    let at = goal.at.returns-in-Some-clause-framed g c in
    let Q = g.Q.Layer in
    let self = c.args.self.now in
    let part = c.poll.new.self in
    let said = c.in-Some.ensures in
    let answer = abstract_queue_answer g.E.SplitEdit.abstract_answer c.in-Some.answer c.poll.new.payload in
    let local : c.take_answer.new.local ≡ own_by g.E.Moves.moves (homes_in (Q.opening c.args.m.now)) self.cpu answer self.local
    = c.take_answer.ensures.local ∙ ap (λ h. own_by g.E.Moves.moves h self.cpu answer self.local)
    (sym (c.requires.coupled.1.homes ∙ sym c.as_slice-homes.ensures.value)) in
    record {
      coupled = (
        said.framed.coupled,
        rw (said.framed.stays.opening, local)
            (done_fits _ _ _ g.met.E.Moves.wakes_sleepers (opens g at.Start) (lawful g at.Start) c.requires.coupled.1 (call_of g at.Start) c.requires.call
            (step_of g at.In-Ok) (is_shared g at.In-Ok) (acts g at.Start) said.history (legal g at.After-poll self.cpu (acts g at.Start)) (Q.cpu_of part)
            (Q.under_way part) said.framed.cpu said.call),
      );
      cpu = refl;
      stays = said.framed.stays;
      others = λ p other theirs. others g at.After-poll p.lower p.cpu p.homes.items p.local other theirs.0 theirs.1;
      holders = λ d other acts held. said.framed.holders d (λ e. other (e ∙ c.requires.coupled.1.cpu)) acts held;
    }
