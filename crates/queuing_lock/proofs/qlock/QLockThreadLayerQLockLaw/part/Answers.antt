use Rattle.std.proofs.Common.{ap, sym, ◌∙◌}
use Rattle.{event_log.specs.declared.ids.{LockId.TheVariants.Pending, TheConstants.THREADS}, layer_traits.specs.Views.Renaming.{renamed_events, viewed}}
use Rattle.{layer_traits.proofs.KernelRenaming.{homes_viewed, there_viewed}, queuing_lock.specs.{Laws.NestedLaws.nothing_seen_at_the_lock, Nested.lock_call}}
use Rattle.queuing_lock.{specs.Nested.nested_lock_of, proofs.{DeferredLemmas.{fresh_deferred, nobody_beneath}, SleptLemmas.slept_none}}
use Rattle.queuing_lock.proofs.qlock.QLockThreadLayerQLockLaw.part.Goals as goal

pub returns-clause-coupled : goal.returns-clause-coupled
returns-clause-coupled g c = λ m acts outside boots.
    let S = g.S.ThreadLayer in
    let part = c.part.result in (
      c.part.ensures.coupled m acts outside (
        nothing_seen_at_the_lock (S.history m) boots.0,
        sym (homes_viewed nested_lock_of (S.opening m)) ∙ boots.1,
        there_viewed nested_lock_of (S.opening m) (Pending c.args.cpu) boots.2,
        nobody_beneath (S.opening m) boots.3,
      ),
      slept_none g.F.Locked.protocol (viewed nested_lock_of (S.opening m)) (S.cpu_of part)
          (renamed_events lock_call (S.history m)) c.new.result.buffers THREADS c.new.ensures,
      fresh_deferred (S.under_way part) (S.local part).deferred (S.local part).threads.hand c.part.ensures.call (ap (λ o. o.deferred) c.part.ensures.local),
    )
