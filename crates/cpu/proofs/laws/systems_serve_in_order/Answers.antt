use Rattle.cpu.proofs.Wakeups.InLine.{systems_serve_in_order}
use Rattle.cpu.proofs.laws.systems_serve_in_order.Goals as goal

pub returns : goal.returns
returns c = systems_serve_in_order
