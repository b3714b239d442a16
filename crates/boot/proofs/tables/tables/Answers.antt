use Rattle.{toml.specs.Data.as_table, boot.proofs.SeenLemmas.so_far_none}
use Rattle.boot.proofs.tables.tables.Goals as goal

pub loop-value-init : goal.loop-value-init
loop-value-init c = rw c.new-found.ensures.items (so_far_none as_table c.args.values.now.items)
