use Rattle.{std.proofs.Common.{sym, subst}, thread_blocks.{specs.Queues.IsQueue, proofs.Distinct.queue_of_none}}
use Rattle.thread_blocks.proofs.lists.ThreadList.new.Goals as goal

pub invariant_of-result : goal.invariant_of-result
invariant_of-result c = subst IsQueue (sym c.new.ensures) queue_of_none
