use Rattle.std.proofs.{Common.{◌≡◌, ap, ◌∙◌}, lemmas.Result.IfOk-weaker}
use Rattle.{layer_traits.specs.{Protocols.OneLock.opened, Blocks.QueueBlocks.inner, Views.Renaming.viewed}, sleep_wakeup.specs.Nested.state_of}
use Rattle.ipc_calls.proofs.opening.SharedQueuesOpensQueues.open.Goals as goal

-- the machine's locks are those that were made
pub returns-clause-locks : goal.returns-clause-locks
returns-clause-locks g c =
    let opening = g.L.Layer.opening in
    IfOk-weaker c.open.result (λ m. opening m ≡ opened c.in_ok-opening_blocks.field-0.items) _
    (λ m is. ap (λ at. inner (viewed state_of at)) is ∙ c.in_ok-opening_blocks.ensures.locks) c.open.ensures.opening
