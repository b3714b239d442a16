use Rattle.fifo_buffer.proofs.MonitorLines.{serves_in_order}
use Rattle.fifo_buffer.proofs.monitor_laws.monitor_serves_in_order.Goals as goal

pub returns : goal.returns
returns c = serves_in_order
