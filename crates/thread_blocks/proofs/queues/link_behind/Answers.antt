use Rattle.std.proofs.Common.{◌∙◌, arith}
use Rattle.thread_blocks.proofs.Holding.{last_there, room_there, behind_held}
use Rattle.thread_blocks.proofs.queues.link_behind.Goals as goal

pub get-before-requires-clause-node : goal.get-before-requires-clause-node
get-before-requires-clause-node g c = let new = c.requires.new in last_there new.0 new.1

pub set-requires-clause-node : goal.set-requires-clause-node
set-requires-clause-node g c = let new = c.requires.new in last_there new.0 new.1

pub overflow_add-nodes : goal.overflow_add-nodes
overflow_add-nodes g c =
    let new = c.requires.new in
    omega (arith, room_there new.0 c.args.t new.1 c.requires.known new.2, c.set.ensures.count, c.set-2.ensures.count)

pub returns-clause-held : goal.returns-clause-held
returns-clause-held g c = λ queue hold new. behind_held c.set.new.self c.set-2.new.self c.args.t queue c.requires.known c.get-before.ensures.value
    c.set.ensures.changed c.set-2.ensures.changed c.set-2.ensures.length (c.set-2.ensures.count ∙ c.set.ensures.count) hold new
