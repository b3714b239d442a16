use Rattle.{std.proofs.lemmas.Result.IfOk-weaker, plain_layers.proofs.PlainOpenings.opens_fresh}
use Rattle.plain_layers.proofs.attempt_layers.SleeperAttemptPlainSchedSleepEditAttemptOpensAttempts.open.Goals as goal

-- the buffers open empty
pub returns-clause-buffers : goal.returns-clause-buffers
returns-clause-buffers c =
    IfOk-weaker c.open.result _ _ (λ m at. opens_fresh m.opening c.args.caps.now c.in_ok-plain_buffers.field-0.items c.in_ok-blocks.blocks.items
    c.in_ok-plain_buffers.ensures c.in_ok-blocks.ensures at) c.open.ensures.blocks
