use Rattle.fifo_buffer.proofs.MonitorLines.{loses_no_wake_up}
use Rattle.fifo_buffer.proofs.monitor_laws.monitor_loses_no_wake_up.Goals as goal

pub returns : goal.returns
returns c = loses_no_wake_up
