use Rattle.plain_layers.specs.Laws.FifoOwned.{buffer_there}
use Rattle.plain_layers.proofs.fifos.PlainFifoOwnedBuffers.buffer_in.Goals as goal

-- a buffer of the machine has its lock
pub block_in-requires-clause-buffer : goal.block_in-requires-clause-buffer
block_in-requires-clause-buffer g c = buffer_there _ c.requires.acts.1.2.fresh _ c.requires.buffer
