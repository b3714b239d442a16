use Rattle.layer_traits.{specs.Views.Renaming.renamed_edit, proofs.{KernelRenaming.grows_renamed, LookLemmas.tries_renamed}}
use Rattle.sleep_wakeup.specs.Nested.{slept_edit}
use Rattle.sleep_wakeup.proofs.sleeper.SleeperThreadLayerSleepLaw.look.Goals as goal

pub returns-clause-history : goal.returns-clause-history
returns-clause-history g c =
    let S = g.S.Layer in
    let m = c.args.m.now in
    grows_renamed slept_edit (λ d. S.ActsFor m d) (S.history m) (S.history c.look.new.m) c.look.ensures.history

pub returns-clause-tries : goal.returns-clause-tries
returns-clause-tries g c = λ step looked.
    let S = g.S.Layer in
    let m = c.args.m.now in
    tries_renamed (renamed_edit slept_edit) (λ d. S.ActsFor m d) (S.cpu_of c.args.self.now.lower) (S.acts m) (S.acts c.look.new.m)
    (c.look.ensures.tries step looked)
