use Rattle.std.proofs.Common.{◌∷◌, [], sym, ap, subst, ◌∙◌, List}
use Rattle.{event_log.specs.declared.ids.Tid.Tid, thread_blocks.{specs.{Queues.{is_in, rest}, Links.Hold}, proofs.Distinct.{first_known, first_once}}}
use Rattle.thread_blocks.proofs.Holding.{walk_held, held_walk, front_held}
use Rattle.thread_blocks.proofs.queues.ThreadQueue.pop_in.Goals as goal

pub unlink-requires : goal.unlink-requires
unlink-requires g c =
    let is = front_held _ c.in-Some.t c.self.invariant c.in-Some.is in
    record { there = ([], _, subst (Hold c.self.inside.nodes) is c.self.invariant) }

pub invariant_of-self : goal.invariant_of-self
invariant_of-self g c =
    let is = front_held _ c.in-Some.t c.self.invariant c.in-Some.is in
    held_walk (c.unlink.ensures.held [] _ (subst (Hold c.self.inside.nodes) is c.self.invariant))

pub returns-clause-rest : goal.returns-clause-rest
returns-clause-rest g c =
    let is = front_held _ c.in-Some.t c.self.invariant c.in-Some.is in
    walk_held (c.unlink.ensures.held [] _ (subst (Hold c.self.inside.nodes) is c.self.invariant)) ∙ ap rest c.self.view_is

pub returns-clause-apart : goal.returns-clause-apart
returns-clause-apart g c =
    let is = front_held _ c.in-Some.t c.self.invariant c.in-Some.is in
    let hold = subst (Hold c.self.inside.nodes) is c.self.invariant in
    let now = walk_held (c.unlink.ensures.held [] _ hold) in (
      first_known c.in-Some.t _ hold.queue_is,
      ap (is_in c.in-Some.t) now ∙ first_once c.in-Some.t _ hold.queue_is,
      sym c.self.view_is ∙ is ∙ ap (λ (queue : List Tid). c.in-Some.t ∷ queue) (sym now),
    )
