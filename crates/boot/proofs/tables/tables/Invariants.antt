use Rattle.{std.proofs.Common.map, toml.specs.{Data.as_table, View.table_view}, boot.proofs.SeenLemmas.SeenSoFar}
use Rattle.boot.proofs.tables.tables.Given as goal

abbrev pub invariant-loop-value : goal.invariant-loop-value
invariant-loop-value l = SeenSoFar as_table l.values.items l.value-index (map (λ table. table_view table.now) l.found.items)
