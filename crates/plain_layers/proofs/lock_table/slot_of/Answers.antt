use Rattle.{std.proofs.Common.arith, plain_layers.proofs.TableLemmas.{slot_here, slot_later, there_later}}
use Rattle.plain_layers.proofs.lock_table.slot_of.Goals as goal

pub returns-then-eq : goal.returns-then-eq
returns-then-eq g c = grind (arith, slot_here)

pub loop-i-preserved : goal.loop-i-preserved
loop-i-preserved g c = grind (arith, there_later, slot_later)
