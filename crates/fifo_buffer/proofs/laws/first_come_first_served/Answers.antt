use Rattle.fifo_buffer.proofs.LineLemmas.{served_in_line}
use Rattle.fifo_buffer.proofs.laws.first_come_first_served.Goals as goal

pub returns : goal.returns
returns c = served_in_line
