use Rattle.std.proofs.Common.{sym, ◌∙◌}
use Rattle.{event_log.specs.declared.ids.LockId.TheVariants.Pending, layer_traits.proofs.KernelRenaming.{homes_viewed, there_viewed}}
use Rattle.sleep_wakeup.{specs.{Laws.NestedLaws.nothing_seen, Nested.state_of}, proofs.PollLemmas.{fresh_deferred, nobody_beneath}}
use Rattle.sleep_wakeup.proofs.sleeper.SleeperThreadLayerSleepLaw.part.Goals as goal

pub returns-clause-coupled : goal.returns-clause-coupled
returns-clause-coupled g c = λ m acts outside boots.
    let S = g.S.Layer in
    let part = c.part.result in (
      c.part.ensures.coupled m acts outside (
        nothing_seen (S.history m) boots.0,
        sym (homes_viewed state_of (S.opening m)) ∙ boots.1,
        there_viewed state_of (S.opening m) (Pending c.args.cpu) boots.2,
      ),
      nobody_beneath (S.opening m) boots.3,
      fresh_deferred g.row.E-Out.Denot (S.under_way part) (S.local part).hand c.part.ensures.call,
    )
