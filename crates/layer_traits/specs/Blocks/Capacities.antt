-- The capacities of buffers, read from their locks one by one.
use Rattle.std.specs.Prelude.{ℕ, zero, suc, ◌+◌, List, [], ◌∷◌, Option, Some, None}
use Rattle.event_log.specs.declared.ids.LockId.{LockId, TheVariants.Buffer}
use Rattle.layer_traits.specs.declared.queue_edits.QueueBlock.{QueueBlock}
use Rattle.layer_traits.specs.Blocks.{BufferProtocol.BufferLock, QueueBlocks.inner}

-- the capacity of a buffer's lock before those of the next ones, while there is one
abbrev pub with_cap_of : {L : Type 0} → (L → ℕ) → Option L → List ℕ → List ℕ
with_cap_of capacity None rest = []
with_cap_of capacity (Some lock) rest = capacity lock ∷ rest

-- the capacities of buffers n, n + 1 and so on, while there is one, at most so many
unfoldable pub caps_from : {L : Type 0} → (L → ℕ) → ℕ → ℕ → (LockId → Option L) → List ℕ
caps_from capacity zero n locks = []
caps_from capacity (suc more) n locks =
    with_cap_of capacity (locks (Buffer (record { 0 = n }))) (caps_from capacity more (n + 1) locks)

-- the capacities of the buffers with these opening blocks: a buffer's number is less than 256
unfoldable pub caps_in : (LockId → Option (QueueBlock BufferLock)) → List ℕ
caps_in opening = caps_from (λ (lock : BufferLock). lock.above.capacity) 256 0 (inner opening)
