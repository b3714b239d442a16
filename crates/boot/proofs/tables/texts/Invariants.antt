use Rattle.{std.proofs.Common.map, toml.specs.Data.as_str, boot.proofs.SeenLemmas.SeenSoFar}
use Rattle.boot.proofs.tables.texts.Given as goal

abbrev pub invariant-loop-value : goal.invariant-loop-value
invariant-loop-value l = SeenSoFar as_str l.values.items l.value-index (map (λ text. text.now) l.found.items)
