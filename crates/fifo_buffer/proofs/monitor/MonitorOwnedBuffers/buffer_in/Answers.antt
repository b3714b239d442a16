use Rattle.fifo_buffer.specs.Laws.MonitorOwned.{monitor_there}
use Rattle.fifo_buffer.proofs.monitor.MonitorOwnedBuffers.buffer_in.Goals as goal

-- a buffer of the machine has its lock
pub block_in-requires-clause-buffer : goal.block_in-requires-clause-buffer
block_in-requires-clause-buffer g c = monitor_there _ c.requires.acts.1.1 _ c.requires.buffer
