use Rattle.{std.proofs.Common.arith, plain_layers.proofs.TableLemmas.block_is_there}
use Rattle.plain_layers.proofs.lock_table.LockTable.done.Goals as goal

pub edit_at-answer-requires : goal.edit_at-answer-requires
edit_at-answer-requires g c = grind (arith, block_is_there)
