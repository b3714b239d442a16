-- The locks with which shared queues open: an empty pending queue for each CPU, and a block for
-- each buffer.
use Rattle.std.specs.Prelude.{◌≡◌, ◌<◌, ◌≤◌, ℕ, ◌+◌, All, List, [], ◌∷◌, length}
use Rattle.event_log.specs.declared.ids.{CpuId.CpuId, LockId.{LockId, TheVariants.Pending}}
use Rattle.event_log.specs.declared.ids.{LockId.TheVariants.Buffer, TheConstants.{BUFFERS, CPUS}}
use Rattle.event_log.specs.declared.ids.TheConstants.{THREADS}
use Rattle.layer_traits.specs.declared.queue_edits.QueueBlock.{QueueBlock, TheVariants.Queue}
use Rattle.layer_traits.specs.declared.queue_edits.QueueBlock.TheVariants.{Above}

-- so many CPUs, these homes and so many buffers make a machine: it has a CPU, each home is one of
-- its CPUs, and all are within the limits
pub record AreQueues (cpus : ℕ) (homes : List CpuId) (buffers : ℕ) : Type 0 where
  pub some : 1 ≤ cpus
  pub most : cpus ≤ CPUS
  pub threads : length homes ≤ THREADS
  pub within : All (λ home. home.0 < cpus) homes
  pub few : buffers ≤ BUFFERS

-- the block is an empty queue that records these homes
abbrev pub IsEmptyQueue : {B : Type 0} → List CpuId → QueueBlock B → Type 0
IsEmptyQueue homes (Queue queue abstract_answer) =
    (queue ≡ []) × (abstract_answer.value.items ≡ homes)
IsEmptyQueue homes (Above block) = ⊥

-- these are the locks of the pending queues from CPU n on, each with an empty queue that records
-- these homes
abbrev pub AreEmptyQueues : {B : Type 0} → List CpuId → ℕ → List (LockId × QueueBlock B) → Type 0
AreEmptyQueues homes n [] = Unit {0}
AreEmptyQueues homes n (o ∷ rest) =
    (o.0 ≡ Pending (record { 0 = n })) × IsEmptyQueue homes o.1 × AreEmptyQueues homes (n + 1) rest

-- the locks of the buffers from buffer n on, with these blocks
abbrev pub buffers_from : {B : Type 0} → ℕ → List B → List (LockId × QueueBlock B)
buffers_from n [] = []
buffers_from n (block ∷ blocks) =
    (Buffer (record { 0 = n }), Above block) ∷ buffers_from (n + 1) blocks
