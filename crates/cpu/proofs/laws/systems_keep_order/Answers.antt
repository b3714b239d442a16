use Rattle.cpu.proofs.Wakeups.ReachedStates.{systems_keep_order}
use Rattle.cpu.proofs.laws.systems_keep_order.Goals as goal

pub returns : goal.returns
returns c = systems_keep_order
