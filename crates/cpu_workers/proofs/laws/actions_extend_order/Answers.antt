use Rattle.cpu_workers.proofs.OneOrder.{order_goes_on}
use Rattle.cpu_workers.proofs.laws.actions_extend_order.Goals as goal

pub returns : goal.returns
returns c = order_goes_on
