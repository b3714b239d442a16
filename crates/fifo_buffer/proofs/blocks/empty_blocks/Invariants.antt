use Rattle.std.proofs.Common.{◌≡◌, ◌≤◌, length, map, take, vec_capacity}
use Rattle.layer_traits.specs.Blocks.BufferBlocks.{empty_block}
use Rattle.fifo_buffer.proofs.blocks.empty_blocks.Given as goal

abbrev pub invariant-loop-capacity : goal.invariant-loop-capacity
invariant-loop-capacity l = (l.blocks.items ≡ map empty_block (take l.capacity-index l.caps)) × (length l.caps ≤ vec_capacity l.blocks)
