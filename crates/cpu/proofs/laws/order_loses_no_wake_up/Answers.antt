use Rattle.cpu.proofs.Wakeups.Ordered.{order_loses_no_wake_up}
use Rattle.cpu.proofs.laws.order_loses_no_wake_up.Goals as goal

pub returns : goal.returns
returns c = order_loses_no_wake_up
