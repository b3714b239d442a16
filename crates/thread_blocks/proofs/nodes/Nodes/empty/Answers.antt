use Rattle.{std.proofs.Common.refl, thread_blocks.proofs.Holding.empty_held}
use Rattle.thread_blocks.proofs.nodes.Nodes.empty.Goals as goal

pub returns : goal.returns
returns c = empty_held _ refl refl c.filled.ensures.length c.filled.ensures.each
