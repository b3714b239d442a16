use Rattle.fifo_buffer.proofs.MonitorLines.{sections_lawful}
use Rattle.fifo_buffer.proofs.monitor_laws.monitor_sections_are_lawful.Goals as goal

pub returns : goal.returns
returns c = sections_lawful
