use Rattle.cpu.proofs.TableOrder.OneOrder.{table_has_one_order}
use Rattle.cpu.proofs.laws.table_has_one_order.Goals as goal

pub returns : goal.returns
returns c = table_has_one_order
