use Rattle.std.proofs.Common.{◌≡◌, ◌≤◌, length, map, take, vec_capacity}
use Rattle.fifo_buffer.specs.Monitors.{empty_monitor}
use Rattle.ipc_calls.proofs.monitor_tower.MonitorEditOpensBlocks.blocks.Given as goal

abbrev pub invariant-loop-capacity : goal.invariant-loop-capacity
invariant-loop-capacity l = (l.blocks.items ≡ map empty_monitor (take l.capacity-index l.caps)) × (length l.caps ≤ vec_capacity l.blocks)
