use Rattle.std.proofs.Common.{◌≡◌, ◌≤◌, length}
use Rattle.{event_log.specs.declared.ids.TheConstants.LOCKS, table_machine.proofs.Laying.AreRanksFrom}
use Rattle.table_machine.proofs.open.ranks_of.Given as goal

abbrev pub invariant-loop-rank : goal.invariant-loop-rank
invariant-loop-rank g l = record {
  row : length l.ranks.items ≡ LOCKS;
  within : l.rank ≤ length l.blocks;
  ranks_hold : AreRanksFrom l.ranks.items l.blocks l.rank;
}

abbrev pub decreases-loop-rank : goal.decreases-loop-rank
decreases-loop-rank g l = l.rank
