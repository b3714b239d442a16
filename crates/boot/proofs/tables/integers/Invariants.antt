use Rattle.{toml.specs.Data.as_integer, boot.proofs.SeenLemmas.SeenSoFar}
use Rattle.boot.proofs.tables.integers.Given as goal

abbrev pub invariant-loop-value : goal.invariant-loop-value
invariant-loop-value l = SeenSoFar as_integer l.values.items l.value-index l.found.items
