use Rattle.std.{proofs.Common.{◌∙◌, ap, is_some, option_map, sym}, specs.Borrow.Bor}
use Rattle.cpu_workers.{specs.declared.counting.TheConstants.NUMBER, proofs.CountMachines.{block_counts, some_where_not_none, there_at_rest}}
use Rattle.cpu_workers.proofs.counting.counted.number_in.Goals as goal

pub unwrap-requires : goal.unwrap-requires
unwrap-requires g c =
    let shown = g.met.L.OwnedLocks.shown c.args.machine.now c.requires.owned.0 NUMBER c.requires.owned.1 (ap is_some c.requires.opening) in
    some_where_not_none c.block_in.result (λ none.
    there_at_rest _ _ _ (g.L.Layer.acts c.args.machine.now) _ _ _ (g.met.L.OwnedLocks.holding c.requires.stepwise c.args.machine.now) shown c.requires.rests
    (sym c.block_in.ensures ∙ ap (option_map (λ (b : Bor _). b.now)) none))

pub returns-clause-number : goal.returns-clause-number
returns-clause-number g c =
    let m = c.args.machine.now in
    let shown = g.met.L.OwnedLocks.shown m c.requires.owned.0 NUMBER c.requires.owned.1 (ap is_some c.requires.opening) in
    block_counts (g.L.Layer.opening m) NUMBER (g.L.Layer.acts m) (g.L.Layer.history m) _ c.requires.opening (g.met.L.Layer.seen_is c.requires.stepwise m)
    (shown.by_machine _ (sym c.block_in.ensures ∙ ap (option_map (λ (b : Bor _). b.now)) c.unwrap.ensures))
