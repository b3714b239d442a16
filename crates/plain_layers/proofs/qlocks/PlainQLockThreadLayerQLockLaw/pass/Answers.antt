use Rattle.{std.proofs.{Common.{Some, refl, sym, subst}, Math.Path.transport}, event_log.specs.History.IsLawful, layer_traits.specs.Threads.Passes.MayPass}
use Rattle.layer_traits.specs.{Layers.{QLockLaw.lock_kernel, Queues.QueueAllowed, Scheds.SchedPolled, SleepLaw.done_if}, Views.Renaming.renamed_events}
use Rattle.layer_traits.{specs.Views.Renaming.viewed, proofs.{FrameLemmas.viewed_stays, KernelRenaming.polled_renamed}}
use Rattle.queuing_lock.{specs.{Laws.NestedLaws.{locks_lawful, locks_wrap}, Nested.busy_rules, Parts.SleptFits}, proofs.PollLemmas.slept_passed}
use Rattle.sleep_wakeup.{specs.{Laws.NestedLaws.{beneath, nested_lawful}, Nested.{slept_edit, state_of}}, proofs.PollLemmas.nested_passed}
use Rattle.plain_layers.{specs.{Kernels.{calls_in, opening_of}, QLocks.{HasLocks, calls_of, abstract_kept, locks_of}}, proofs.QLockLemmas.kept_passed}
use Rattle.plain_layers.proofs.qlocks.PlainQLockThreadLayerQLockLaw.pass.{Given.Over, Goals.After-unwrap}
use Rattle.plain_layers.proofs.qlocks.PlainQLockThreadLayerQLockLaw.pass.Goals as goal
use Rattle.layer_traits.specs.declared.scheds.SchedCall.TheVariants as call

passed : (g : Over) (c : After-unwrap g) → SchedPolled (lock_kernel g.F.Locked.protocol (locks_of (opening_of c.args.m.now.opening)))
    (λ d. HasLocks g.F.Locked.protocol c.args.m.now d) c.args.self.now.sched.cpu (call.Pass c.args.call) (done_if (Some tt))
    (calls_of (calls_in c.args.m.now)) (calls_of (calls_in c.poll.new.m)) c.args.self.now.sched.local c.poll.new.self.local
passed g c =
    let protocol = busy_rules g.F.Locked.protocol in
    let opening = opening_of c.args.m.now.opening in
    polled_renamed _ _ _ _ (locks_wrap g.F.Locked.protocol (viewed state_of opening)) _ _ (call.Pass c.args.call) _ _ _ _ _
    (nested_passed protocol opening (λ d. HasLocks g.F.Locked.protocol c.args.m.now d) c.args.self.now.sched.cpu _ (calls_in c.args.m.now)
    (calls_in c.poll.new.m) _ c.poll.new.self.local c.args.call (Some tt) refl (rw c.unwrap.ensures at c.poll.ensures.history))

pub returns-clause-history : goal.returns-clause-history
returns-clause-history g c = passed g (goal.at.returns-clause-history g c).After-unwrap

pub returns-clause-framed : goal.returns-clause-framed
returns-clause-framed g c =
    let protocol = g.F.Locked.protocol in
    let self = c.args.self.now in
    let opening = opening_of c.args.m.now.opening in
    let n = calls_in c.poll.new.m in
    let coupled = c.requires.coupled in
    let said = c.poll.ensures.framed in
    let passed = passed g (goal.at.returns-clause-framed g c).After-unwrap in
    let lawful = locks_lawful protocol (viewed state_of opening) (renamed_events slept_edit n) (nested_lawful (busy_rules protocol) opening n
    (subst (λ o. IsLawful (QueueAllowed (beneath (busy_rules protocol) o)) n) said.stays.opening said.coupled.1.lawful)) in
    let nobody = rw (← said.stays.opening) at coupled.1 in
    record {
      coupled = (
        said.coupled,
        nobody,
        transport (λ i. SleptFits protocol (locks_of (sym said.stays.opening i)) (sym said.cpu i) (calls_of n) self.slept)
            (slept_passed protocol (locks_of opening) c.args.call (done_if (Some tt)) passed self.sched.cpu (coupled.0.0, coupled.0.1) lawful self.slept
            coupled.2),
        kept_passed (abstract_kept g.F.Locked.abstract_answer self.kept) c.args.call (MayPass c.args.call self.sched.local) c.poll.new.self.local.hand
            c.requires.call,
      );
      cpu = said.cpu;
      stays = viewed_stays (λ o. locks_of o) said.stays;
      others = λ p apart theirs. (
        said.others p.sched apart theirs.0,
        nobody,
        transport (λ i. SleptFits protocol (locks_of (sym said.stays.opening i)) p.sched.cpu (calls_of n) p.slept)
            (slept_passed protocol (locks_of opening) c.args.call (done_if (Some tt)) passed p.sched.cpu (theirs.0.0, theirs.0.1) lawful p.slept theirs.2),
        theirs.3,
      );
      holders = λ d other acts held. held;
    }
