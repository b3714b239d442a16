use Rattle.std.proofs.{Common.{◌∙◌}, lemmas.Result.IfOk-weaker}
use Rattle.ipc_calls.proofs.Towers.{monitors_at_boot}
use Rattle.ipc_calls.proofs.monitor_tower.monitor_blocks.Goals as goal

-- the blocks are those of fresh monitors
pub returns-clause-locks : goal.returns-clause-locks
returns-clause-locks c =
    IfOk-weaker c.opening_blocks.result _ _ (λ locks boots. boots ∙ monitors_at_boot c.args.caps.now) c.opening_blocks.ensures.locks
