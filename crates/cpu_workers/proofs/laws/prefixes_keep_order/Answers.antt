use Rattle.cpu_workers.proofs.OneOrder.{prefixes_keep_order as kept}
use Rattle.cpu_workers.proofs.laws.prefixes_keep_order.Goals as goal

pub returns : goal.returns
returns c = kept
