use Rattle.{std.proofs.lemmas.Result.IfOk-weaker, layer_traits.specs.{Protocols.OneLock.opened, Views.Renaming.viewed}, sleep_wakeup.specs.Nested.state_of}
use Rattle.ipc_calls.proofs.Towers.{tower_locks}
use Rattle.ipc_calls.proofs.tower.tower_blocks.Goals as goal

-- the blocks are those of empty buffers, each under a free lock without sleepers
pub returns-clause-locks : goal.returns-clause-locks
returns-clause-locks c =
    IfOk-weaker c.opening_blocks.result _ _ (λ locks boots. tower_locks (viewed state_of (opened locks.items)) c.args.caps.now boots)
    c.opening_blocks.ensures.locks
