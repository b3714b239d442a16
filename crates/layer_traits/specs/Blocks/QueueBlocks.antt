-- The blocks of locks that guard queues of threads: nested, so that the homes, the pending queues
-- and the blocks above them are all read from one opening.
use Rattle.std.specs.Prelude.{◌≡◌, ◌≤◌, List, [], length, Option, Some, None, IsSome}
use Rattle.event_log.specs.declared.ids.{CpuId.CpuId, LockId.{LockId, TheVariants.Pending}}
use Rattle.event_log.specs.declared.ids.{LockId.TheVariants.Buffer, Tid.Tid, TheConstants.THREADS}
use Rattle.layer_traits.specs.declared.queue_edits.QueueBlock.{QueueBlock, TheVariants.Queue}
use Rattle.layer_traits.specs.declared.queue_edits.QueueBlock.TheVariants.{Above}
use Rattle.layer_traits.specs.Threads.Places.{home_of}

-- the block of the layer above, if it is one
abbrev pub above_of : {B : Type 0} → Option (QueueBlock B) → Option B
above_of None = None
above_of (Some (Queue queue homes)) = None
above_of (Some (Above block)) = Some block

-- the opening blocks of the layer above
abbrev pub inner : {B : Type 0} → (LockId → Option (QueueBlock B)) → LockId → Option B
inner opening lock = above_of (opening lock)

-- the block with this queue in it, if it is a queue's
abbrev pub with_queue : {B : Type 0} → List Tid → Option (QueueBlock B) → Option (QueueBlock B)
with_queue queue None = None
with_queue queue (Some (Queue old homes)) = Some (Queue queue homes)
with_queue queue (Some (Above block)) = Some (Above block)

-- the homes that a pending queue's block records
abbrev pub homes_of : {B : Type 0} → Option (QueueBlock B) → List CpuId
homes_of None = []
homes_of (Some (Queue queue homes)) = homes.value.items
homes_of (Some (Above block)) = []

-- the homes of all threads, as the block of CPU 0's pending queue records them
abbrev pub homes_in : {B : Type 0} → (LockId → Option (QueueBlock B)) → List CpuId
homes_in opening = homes_of (opening (Pending (record { 0 = 0 })))

-- a lock opens with a block of its kind, and a pending queue opens empty
abbrev pub StartsAs : {B : Type 0} → LockId → Option (QueueBlock B) → Type 0
StartsAs lock None = Unit {0}
StartsAs (Pending c) (Some (Queue queue homes)) = queue ≡ []
StartsAs (Pending c) (Some (Above block)) = ⊥
StartsAs (Buffer b) (Some (Queue queue homes)) = ⊥
StartsAs (Buffer b) (Some (Above block)) = Unit {0}

-- an opening is well formed: each lock opens as it must, each thread's home has its queue, and
-- there are no more homes than threads
pub record StartsWell {B : Type 0} (opening : LockId → Option (QueueBlock B)) : Type 0 where
  pub kinds : (lock : LockId) → StartsAs lock (opening lock)
  pub queues : (t : Tid) (home : CpuId) → home_of (homes_in opening) t ≡ Some home
      → IsSome (opening (Pending home))
  pub room : length (homes_in opening) ≤ THREADS
