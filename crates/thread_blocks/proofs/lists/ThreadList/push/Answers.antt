use Rattle.{std.proofs.Common.{sym, subst, arith}, thread_blocks.{specs.Queues.IsQueue, proofs.Distinct.{has_room, queue_pushed}}}
use Rattle.thread_blocks.proofs.lists.ThreadList.push.Goals as goal

pub push-requires : goal.push-requires
push-requires c =
    let room = has_room _ c.args.t c.self.invariant c.requires.known (rw c.self.view_is c.requires.new) in (omega arith, room)

pub invariant_of-self : goal.invariant_of-self
invariant_of-self c = subst IsQueue (sym c.push.ensures.items) (queue_pushed _ c.args.t c.self.invariant c.requires.known (rw c.self.view_is c.requires.new))
