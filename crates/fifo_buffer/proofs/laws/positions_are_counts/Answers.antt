use Rattle.fifo_buffer.proofs.LineLemmas.{positions_are_counts}
use Rattle.fifo_buffer.proofs.laws.positions_are_counts.Goals as goal

pub returns : goal.returns
returns c = positions_are_counts
