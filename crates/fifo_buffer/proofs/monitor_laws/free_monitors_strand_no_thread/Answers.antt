use Rattle.fifo_buffer.proofs.MonitorsAreFree.{strands_no_thread}
use Rattle.fifo_buffer.proofs.monitor_laws.free_monitors_strand_no_thread.Goals as goal

pub returns : goal.returns
returns c = strands_no_thread
