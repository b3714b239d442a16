use Rattle.thread_blocks.proofs.Holding.{walk_held, held_walk}
use Rattle.thread_blocks.proofs.queues.ThreadQueue.new.Goals as goal

pub invariant_of-result : goal.invariant_of-result
invariant_of-result c = held_walk c.empty.ensures

pub returns : goal.returns
returns c = walk_held c.empty.ensures
