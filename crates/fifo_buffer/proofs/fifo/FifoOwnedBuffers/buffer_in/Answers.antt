use Rattle.fifo_buffer.specs.Laws.OwnedLaws.{block_there}
use Rattle.fifo_buffer.proofs.fifo.FifoOwnedBuffers.buffer_in.Goals as goal

pub block_in-requires-clause-buffer : goal.block_in-requires-clause-buffer
block_in-requires-clause-buffer g c = block_there (g.C.ThreadLayer.opening c.args.m.now) c.requires.acts.1.1 c.args.b c.requires.buffer
