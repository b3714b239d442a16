-- Items and counters of a buffer's block, one more or one fewer.
use Rattle.std.proofs.Common.{◌≡◌, ℕ, ◌+◌, ◌%◌, ◌^◌, List, drop, arith}
use Rattle.{event_log.specs.Messages.Message, layer_traits.specs.Blocks.BufferBlocks.{counted, other_items}}

-- a counter increments, modulo 2^64
pub one_more : (a n : ℕ) → a ≡ n % 2 ^ 64 → counted a ≡ (n + 1) % 2 ^ 64
one_more a n is = omega (arith, is)

pub drop_one : (items : List Message) → drop 1 items ≡ other_items items
drop_one items = grind arith
