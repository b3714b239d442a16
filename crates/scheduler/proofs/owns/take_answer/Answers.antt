use Rattle.std.proofs.Common.{subst, sym, ◌∙◌}
use Rattle.{layer_traits.specs.Blocks.Payloads.abstract_queue_answer, scheduler.specs.Owns.MayTake}
use Rattle.scheduler.proofs.owns.take_answer.Goals as goal

-- the threads that were taken are in the payload
pub join_ready-requires : goal.join_ready-requires
join_ready-requires g c =
    subst (λ a. MayTake g.E.Moves.moves (abstract_queue_answer g.E.SplitEdit.abstract_answer a c.args.payload.now) c.args.local.now) c.in-Taken.is c.requires

pub settle-requires : goal.settle-requires
settle-requires g c =
    let may =
    subst (λ a. MayTake g.E.Moves.moves (abstract_queue_answer g.E.SplitEdit.abstract_answer a c.args.payload.now) c.args.local.now) c.in-Answer.is
    c.requires in
    λ t woken. may t (sym (c.woke.ensures c.args.payload.now) ∙ woken)
