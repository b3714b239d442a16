use Rattle.std.proofs.Common.{sym, subst, ◌∙◌}
use Rattle.thread_blocks.{specs.Queues.IsQueue, proofs.Distinct.{front_out, queue_behind, first_known, first_once}}
use Rattle.thread_blocks.proofs.lists.ThreadList.pop.Goals as goal

pub invariant_of-self : goal.invariant_of-self
invariant_of-self c =
    let split = front_out c.self.inside.threads.items c.remove.result (sym c.is_empty.ensures ∙ c.if-is_empty.false) c.remove.ensures.value in
    subst IsQueue (sym c.remove.ensures.items) (queue_behind _ _ (subst IsQueue split c.self.invariant))

pub returns : goal.returns
returns c =
    let split = front_out c.self.inside.threads.items c.remove.result (sym c.is_empty.ensures ∙ c.if-is_empty.false) c.remove.ensures.value in
    let is = subst IsQueue split c.self.invariant in
    rw c.remove.ensures.items (first_known _ _ is, first_once _ _ is, sym c.self.view_is ∙ split)
