use Rattle.std.proofs.Common.{◌<◌, sym, subst, ◌∙◌, IfSome}
use Rattle.{event_log.specs.declared.ids.TheConstants.THREADS, thread_blocks.{specs.declared.nodes.Node.Node, proofs.Holding.{known_there, before_there}}}
use Rattle.thread_blocks.proofs.Holding.{after_there, taken_held}
use Rattle.thread_blocks.proofs.queues.unlink.Goals as goal

pub get-out-requires-clause-node : goal.get-out-requires-clause-node
get-out-requires-clause-node g c = let there = c.requires.there in known_there there.0 c.args.t there.1 there.2

pub set-requires-clause-node : goal.set-requires-clause-node
set-requires-clause-node g c = let there = c.requires.there in known_there there.0 c.args.t there.1 there.2

pub get-before-requires-clause-node : goal.get-before-requires-clause-node
get-before-requires-clause-node g c =
    let there = c.requires.there in
    subst (λ (n : Node). IfSome n.prev (λ t. t.0 < THREADS)) (sym c.get-out.ensures.value) (before_there there.0 c.args.t there.1 there.2)

pub set-requires-2-clause-node : goal.set-requires-2-clause-node
set-requires-2-clause-node g c =
    let there = c.requires.there in
    subst (λ (n : Node). IfSome n.prev (λ t. t.0 < THREADS)) (sym c.get-out.ensures.value) (before_there there.0 c.args.t there.1 there.2)

pub get-after-requires-clause-node : goal.get-after-requires-clause-node
get-after-requires-clause-node g c =
    let there = c.requires.there in
    subst (λ (n : Node). IfSome n.next (λ t. t.0 < THREADS)) (sym c.get-out.ensures.value) (after_there there.0 c.args.t there.1 there.2)

pub set-requires-3-clause-node : goal.set-requires-3-clause-node
set-requires-3-clause-node g c =
    let there = c.requires.there in
    subst (λ (n : Node). IfSome n.next (λ t. t.0 < THREADS)) (sym c.get-out.ensures.value) (after_there there.0 c.args.t there.1 there.2)

pub returns-clause-held : goal.returns-clause-held
returns-clause-held g c = λ before after hold. taken_held c.set.new.self c.set-2.new.self c.set-3.new.self before c.args.t after
    c.get-out.ensures.value c.set.ensures.changed c.get-before.ensures.value c.set-2.ensures.changed c.get-after.ensures.value c.set-3.ensures.changed
    c.set-3.ensures.length (c.set-3.ensures.count ∙ c.set-2.ensures.count ∙ c.set.ensures.count) hold
