use Rattle.std.proofs.{Common.{◌≡◌, arith, false, [], Some, None, ap, sym, ◌∙◌, refl, ◌<◌}, lemmas.Bool.ne_eqb}
use Rattle.event_log.{specs.{History.{IsLawful, same_cpu}, declared.ids.{CpuId.CpuId, TheConstants.CPUS}}, proofs.Same.cpu_numbered}
use Rattle.layer_traits.specs.declared.{queue_edits.QueueAnswer.QueueAnswer, queues.QueueCall.QueueCall, scheds.SchedCall.SchedCall}
use Rattle.layer_traits.specs.{Blocks.{Payloads.{abstract_queue_call, abstract_queue_answer, abstract_sched_call}, QueueBlocks.homes_in}, Layers.Queues.Kernel}
use Rattle.layer_traits.{specs.Layers.{Queues.{QueueAllowed, QueuePolled, event, kernel}, Scheds.{own_by, queue_call}}, proofs.FrameLemmas.untouched_stays}
use Rattle.scheduler.{specs.Owns.local_after, proofs.StepLemmas.{call_may, done_fits, done_polled, finish_ok, local_fits, local_polled, lock_is_there}}
use Rattle.{scheduler.proofs.StepLemmas.{may_take, other_fits}, plain_layers.proofs.KernelLemmas.{lock_handed, there_meant}}
use Rattle.plain_layers.proofs.scheds.PlainSchedLayerSchedLaw.poll.{Given.Over, Goals.{Start, In-Err, In-Ok, After-pass_locally, After-done-answer}}
use Rattle.plain_layers.{proofs.scheds.PlainSchedLayerSchedLaw.poll.Goals.After-take_answer, specs.Kernels.{HasKernel, IsKernel, call_room, calls_in, no_site}}
use Rattle.plain_layers.specs.Kernels.{opening_of}
use Rattle.plain_layers.proofs.scheds.PlainSchedLayerSchedLaw.poll.Goals as goal

-- the call, and the one at the shared queues that it is
abbrev call_of : (g : Over) (c : Start g) → SchedCall g.row.E.Denot
call_of g c = abstract_sched_call g.E.SplitEdit.abstract_call c.args.call c.args.payload.now

-- the CPUs that act on the machine
abbrev Acts : (g : Over) (c : Start g) → CpuId → Type 0
Acts g c d = (d.0 < CPUS) × IsKernel g.E.SplitEdit.protocol g.E.Moves.moves c.args.m.now.opening (calls_in c.args.m.now) c.args.m.now.lists

abbrev step_of : (g : Over) (c : In-Ok g) → QueueCall g.row.E.Denot
step_of g c = abstract_queue_call g.E.SplitEdit.abstract_call c.in-Ok.step c.args.payload.now

is_shared : (g : Over) (c : In-Ok g) → queue_call (homes_in (opening_of c.args.m.now.opening)) c.args.self.now.cpu
    (abstract_sched_call g.E.SplitEdit.abstract_call c.args.call c.args.payload.now) ≡ Some (step_of g c)
is_shared g c = grind arith

pub pass_locally-requires : goal.pass_locally-requires
pass_locally-requires g c =
    let coupled = c.requires.coupled in
    finish_ok g.E.SplitEdit.protocol g.E.Moves.moves (opening_of c.args.m.now.opening) g.met.E.Moves.wakes_sleepers coupled.1.starts c.args.self.now.cpu
    (calls_in c.args.m.now) c.args.self.now.local coupled.1.lawful coupled.2.stands

pub done-answer-requires-clause-lock : goal.done-answer-requires-clause-lock
done-answer-requires-clause-lock g c = grind (arith, lock_handed, lock_is_there, is_shared, there_meant)

pub done-answer-requires-clause-call : goal.done-answer-requires-clause-call
done-answer-requires-clause-call g c =
    let at = goal.at.done-answer-requires-clause-call g c in
    let coupled = c.requires.coupled in
    call_may _ _ _ g.met.E.Moves.wakes_sleepers coupled.1.starts coupled.1.lawful coupled.2 (call_of g at.Start) c.requires.call (step_of g at.In-Ok)
    (is_shared g at.In-Ok) [] tt coupled.1.lawful

-- the call done at once
module _ (g : Over) (c : After-done-answer g) where
  abbrev K : Kernel g.row.E.Denot g.row.E-Block.Denot g.row.E-Out.Denot
  K = kernel g.E.SplitEdit.protocol g.E.Moves.moves (opening_of c.args.m.now.opening)

  abbrev answer : QueueAnswer g.row.E-Out.Denot
  answer = abstract_queue_answer g.E.SplitEdit.abstract_answer c.done-answer.result c.done-answer.new.payload

  legal : IsLawful (QueueAllowed K) (calls_in c.done-answer.new.self)
  legal = grind arith

  polled : {ActsFor : CpuId → Type 0}
      → QueuePolled K ActsFor (event c.args.self.now.cpu (abstract_queue_call g.E.SplitEdit.abstract_call c.in-Ok.step c.args.payload.now))
      (Some answer) (calls_in c.args.m.now) (calls_in c.done-answer.new.self)
  polled = record { others = []; foreign = λ d acts. tt; is = c.done-answer.ensures.history; answers = c.done-answer.ensures.answer }

pub take_answer-requires : goal.take_answer-requires
take_answer-requires g c =
    let at = goal.at.take_answer-requires g c in
    let coupled = c.requires.coupled in
    let done = at.After-done-answer in
    may_take _ _ _ g.met.E.Moves.wakes_sleepers coupled.1.starts coupled.1.lawful coupled.2 (call_of g at.Start) c.requires.call (step_of g at.In-Ok)
    (is_shared g at.In-Ok) {ActsFor = Acts g at.Start} (coupled.0, coupled.1) (polled g done) (legal g done)

-- a call that touches nothing shared

is_local : (g : Over) (c : In-Err g) → queue_call (homes_in (opening_of c.args.m.now.opening)) c.args.self.now.cpu
    (abstract_sched_call g.E.SplitEdit.abstract_call c.args.call c.args.payload.now) ≡ None
is_local g c = grind arith

passed : (g : Over) (c : After-pass_locally g) → c.pass_locally.new.local
    ≡ local_after (abstract_sched_call g.E.SplitEdit.abstract_call c.args.call c.args.payload.now) c.args.self.now.local
passed g c = c.pass_locally.ensures ∙ ap (λ s. local_after s c.args.self.now.local) (sym (c.in-Err.ensures.local_is c.args.payload.now).0)

pub returns-in-Err-clause-framed : goal.returns-in-Err-clause-framed
returns-in-Err-clause-framed g c =
    let at = goal.at.returns-in-Err-clause-framed g c in
    let protocol = g.E.SplitEdit.protocol in
    let mv = g.E.Moves.moves in
    let m = c.args.m.now in
    let coupled = c.requires.coupled in
    let kept =
    local_fits _ _ _ g.met.E.Moves.wakes_sleepers coupled.1.starts coupled.1.lawful coupled.2 (call_of g at.Start) c.requires.call (is_local g at.In-Err) in
    record {
      coupled = (coupled.0, coupled.1, rw (passed g at.After-pass_locally) kept);
      cpu = refl;
      stays = untouched_stays (λ k. opening_of k.opening) (λ k. no_site) (λ k. call_room k) (λ k c. HasKernel protocol mv k c) m;
      others = λ p other coupled. coupled;
      holders = λ d other acts held. held;
    }

pub returns-in-Err-clause-history : goal.returns-in-Err-clause-history
returns-in-Err-clause-history g c =
    let at = goal.at.returns-in-Err-clause-history g c in
    let coupled = c.requires.coupled in
    rw (passed g at.After-pass_locally) (local_polled _ _ _ g.met.E.Moves.wakes_sleepers coupled.1.starts coupled.1.lawful coupled.2 (call_of g at.Start)
    c.requires.call (is_local g at.In-Err) (Acts g at.Start))

-- a call that is one at the shared queues

taken : (g : Over) (c : After-take_answer g) → c.take_answer.new.local ≡ own_by g.E.Moves.moves (homes_in (opening_of c.args.m.now.opening))
    c.args.self.now.cpu (abstract_queue_answer g.E.SplitEdit.abstract_answer c.done-answer.result c.done-answer.new.payload) c.args.self.now.local
taken g c = grind arith

pub returns-in-Ok-clause-framed : goal.returns-in-Ok-clause-framed
returns-in-Ok-clause-framed g c =
    let at = goal.at.returns-in-Ok-clause-framed g c in
    let wakes = g.met.E.Moves.wakes_sleepers in
    let self = c.args.self.now in
    let coupled = c.requires.coupled in
    let done = at.After-done-answer in
    let said = c.done-answer.ensures in
    record {
      coupled = (
        coupled.0,
        said.sound,
        rw (said.opening, taken g at.After-take_answer) (done_fits _ _ _ wakes coupled.1.starts coupled.1.lawful coupled.2 (call_of g at.Start) c.requires.call
            (step_of g at.In-Ok) (is_shared g at.In-Ok) {ActsFor = Acts g at.Start} (coupled.0, coupled.1) (polled g done) (legal g done) self.cpu None refl
            refl),
      );
      cpu = refl;
      stays = record {
        opening = ap opening_of said.opening;
        machine_id = refl;
        room = (let less = said.room in omega arith);
        acts = λ d acts. (acts.0, said.sound);
      };
      others = λ p other theirs.
          let apart : same_cpu self.cpu p.cpu ≡ false = ne_eqb self.cpu.0 p.cpu.0 (λ e. other (sym (ap cpu_numbered e))) in (
            theirs.0,
            said.sound,
            rw said.opening (other_fits _ _ _ wakes coupled.1.starts (Acts g at.Start) self.cpu p.cpu _ _ _ (step_of g at.In-Ok) (Some (answer g done))
                _ _ p.local (theirs.0, coupled.1) apart (polled g done) (legal g done) theirs.2),
          );
      holders = λ d other acts held. held;
    }

pub returns-in-Ok-clause-history : goal.returns-in-Ok-clause-history
returns-in-Ok-clause-history g c =
    let at = goal.at.returns-in-Ok-clause-history g c in
    let coupled = c.requires.coupled in
    let done = at.After-done-answer in
    rw (c.take_answer.ensures.answer, taken g at.After-take_answer) (done_polled _ _ _ g.met.E.Moves.wakes_sleepers coupled.1.starts coupled.1.lawful coupled.2
    (call_of g at.Start) c.requires.call (step_of g at.In-Ok) (is_shared g at.In-Ok) (coupled.0, coupled.1) (polled g done) (legal g done))
