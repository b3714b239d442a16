use Rattle.{std.proofs.lemmas.Result.IfOk-weaker, layer_traits.specs.Protocols.OneLock.opened, ipc_calls.proofs.{Opened.both_ok, Towers.opened_as_made}}
use Rattle.ipc_calls.proofs.opening.opening_blocks.Goals as goal

-- each buffer's lock has the block that was made for its capacity, and no sleeper
pub returns-clause-locks : goal.returns-clause-locks
returns-clause-locks g c =
    let r = c.queue_blocks.result in
    let made = c.queue_blocks.ensures in
    IfOk-weaker r _ _
    (λ locks it. opened_as_made (opened locks.items) c.args.caps.now g.E.OpensBlocks.at_boot c.in_ok-blocks.field-0.items
    c.in_ok-blocks-2.blocks.items it.0 c.in_ok-blocks.ensures c.in_ok-blocks-2.ensures it.1)
    (both_ok r _ _ made.starts made.blocks)
