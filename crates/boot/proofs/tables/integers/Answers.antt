use Rattle.{toml.specs.Data.as_integer, boot.proofs.SeenLemmas.so_far_none}
use Rattle.boot.proofs.tables.integers.Goals as goal

pub loop-value-init : goal.loop-value-init
loop-value-init c = rw c.new-found.ensures.items (so_far_none as_integer c.args.values.now.items)
