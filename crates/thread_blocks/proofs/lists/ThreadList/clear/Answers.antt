use Rattle.{std.proofs.Common.{sym, subst}, thread_blocks.{specs.Queues.IsQueue, proofs.Distinct.queue_of_none}}
use Rattle.thread_blocks.proofs.lists.ThreadList.clear.Goals as goal

pub invariant_of-self : goal.invariant_of-self
invariant_of-self c = subst IsQueue (sym c.clear.ensures) queue_of_none
