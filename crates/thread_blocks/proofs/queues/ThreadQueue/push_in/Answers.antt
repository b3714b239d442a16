use Rattle.std.proofs.Common.{◌++◌, ◌∷◌, [], ap, ◌∙◌}
use Rattle.thread_blocks.{specs.Queues.is_in, proofs.Holding.{walk_held, held_walk}}
use Rattle.thread_blocks.proofs.queues.ThreadQueue.push_in.Goals as goal

pub link_behind-requires-clause-new : goal.link_behind-requires-clause-new
link_behind-requires-clause-new g c = (_, c.self.invariant, ap (is_in c.args.t) c.self.view_is ∙ c.requires.new)

pub invariant_of-self : goal.invariant_of-self
invariant_of-self g c = held_walk (c.link_behind.ensures.held _ c.self.invariant (ap (is_in c.args.t) c.self.view_is ∙ c.requires.new))

pub returns-clause-pushed : goal.returns-clause-pushed
returns-clause-pushed g c =
    walk_held (c.link_behind.ensures.held _ c.self.invariant (ap (is_in c.args.t) c.self.view_is ∙ c.requires.new))
    ∙ ap (λ queue. queue ++ c.args.t ∷ []) c.self.view_is
