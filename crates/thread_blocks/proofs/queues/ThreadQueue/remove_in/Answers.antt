use Rattle.std.proofs.Common.{◌≡◌, false, sym, ap, subst, ◌∙◌}
use Rattle.thread_blocks.{specs.{Queues.{is_in, without}, Links.Hold}, proofs.{Distinct.{queue_split, without_none}, Holding.{walk_held, held_walk}}}
use Rattle.thread_blocks.proofs.queues.ThreadQueue.remove_in.Goals as goal

pub returns-then-not-is_member-clause-rest : goal.returns-then-not-is_member-clause-rest
returns-then-not-is_member-clause-rest g c =
    let found = c.is_member.ensures.found _ c.self.invariant in
    let absent : is_in c.args.t c.args.self.now ≡ false = sym (ap (is_in c.args.t) c.self.view_is) ∙ sym found ∙ c.if-not-is_member.true in
    sym (without_none c.args.t _ absent)

pub unlink-requires : goal.unlink-requires
unlink-requires g c =
    let p = queue_split c.args.t _ c.self.invariant.queue_is.0 (sym (c.is_member.ensures.found _ c.self.invariant) ∙ c.if-not-is_member.false) in
    record { there = (p.before, p.after, subst (Hold c.self.inside.nodes) p.is c.self.invariant) }

pub invariant_of-self : goal.invariant_of-self
invariant_of-self g c =
    let p = queue_split c.args.t _ c.self.invariant.queue_is.0 (sym (c.is_member.ensures.found _ c.self.invariant) ∙ c.if-not-is_member.false) in
    held_walk (c.unlink.ensures.held p.before p.after (subst (Hold c.self.inside.nodes) p.is c.self.invariant))

pub returns-clause-rest : goal.returns-clause-rest
returns-clause-rest g c =
    let p = queue_split c.args.t _ c.self.invariant.queue_is.0 (sym (c.is_member.ensures.found _ c.self.invariant) ∙ c.if-not-is_member.false) in
    walk_held (c.unlink.ensures.held p.before p.after (subst (Hold c.self.inside.nodes) p.is c.self.invariant))
    ∙ sym p.left ∙ ap (without c.args.t) c.self.view_is
