use Rattle.std.proofs.{Common.{map, ap, ◌∙◌}, lemmas.{Result.IfOk-weaker, Simd.map-map}}
use Rattle.{layer_traits.specs.Blocks.BufferBlocks.empty_block, queuing_lock.specs.Nested.unowned}
use Rattle.ipc_calls.proofs.tower.QLockSectionCvEditBufferEditCvLeaveOpensBlocks.blocks.Goals as goal

-- the blocks are those of empty buffers, each under a free lock
pub returns : goal.returns
returns c =
    IfOk-weaker c.lock_blocks.result _ _
    (λ made are. are ∙ (ap (map unowned) c.in_ok-empty_blocks.ensures ∙ map-map unowned empty_block c.args.caps.now)) c.lock_blocks.ensures
