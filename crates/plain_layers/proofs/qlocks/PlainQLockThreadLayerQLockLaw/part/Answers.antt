use Rattle.std.proofs.Common.{refl, sym, ◌∙◌}
use Rattle.{event_log.specs.declared.ids.{LockId.TheVariants.Pending, TheConstants.THREADS}, layer_traits.specs.Views.Renaming.{renamed_events, viewed}}
use Rattle.{layer_traits.proofs.KernelRenaming.{homes_viewed, there_viewed}, queuing_lock.specs.Laws.NestedLaws.nothing_seen_at_the_lock}
use Rattle.queuing_lock.{specs.Nested.nested_lock_of, proofs.{DeferredLemmas.nobody_beneath as nobody_asks, SleptLemmas.slept_none}}
use Rattle.sleep_wakeup.{specs.{Laws.NestedLaws.nothing_seen, Nested.{slept_edit, state_of}}, proofs.PollLemmas.nobody_beneath}
use Rattle.plain_layers.specs.{Kernels.{calls_in, opening_of}, QLocks.{calls_of, locks_of}}
use Rattle.plain_layers.proofs.qlocks.PlainQLockThreadLayerQLockLaw.part.Goals as goal

-- no thread has slept, and nothing is kept
pub returns-clause-coupled : goal.returns-clause-coupled
returns-clause-coupled g c = λ m acts outside boots.
    let opening = opening_of m.opening in
    let blocks = viewed state_of opening in (
      c.part.ensures.coupled m acts outside (
        nothing_seen (calls_in m) (nothing_seen_at_the_lock (renamed_events slept_edit (calls_in m)) boots.0),
        sym (homes_viewed state_of opening) ∙ (sym (homes_viewed nested_lock_of blocks) ∙ boots.1),
        there_viewed state_of opening (Pending c.args.cpu) (there_viewed nested_lock_of blocks (Pending c.args.cpu) boots.2),
      ),
      nobody_beneath opening (nobody_asks blocks boots.3),
      slept_none g.F.Locked.protocol (locks_of opening) c.part.result.cpu (calls_of (calls_in m)) _ THREADS refl,
      (tt, tt),
    )
