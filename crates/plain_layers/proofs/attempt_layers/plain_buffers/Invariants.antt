use Rattle.std.proofs.Common.{◌≡◌, ◌≤◌, length, map, take, vec_capacity}
use Rattle.plain_layers.specs.Attempts.{plain_empty_buffer}
use Rattle.plain_layers.proofs.attempt_layers.plain_buffers.Given as goal

abbrev pub invariant-loop-capacity : goal.invariant-loop-capacity
invariant-loop-capacity l = (l.buffers.items ≡ map plain_empty_buffer (take l.capacity-index l.caps)) × (length l.caps ≤ vec_capacity l.buffers)
