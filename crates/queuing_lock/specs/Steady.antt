-- Properties of a lock that hold under calls of other threads.
use Rattle.std.specs.Prelude.{◌≡◌, ◌≢◌, false, Option, Some, None}
use Rattle.event_log.specs.declared.ids.{CpuId.CpuId, LockId.LockId, Tid.Tid}
use Rattle.layer_traits.specs.declared.locked.QLockCall.{QLockCall}
use Rattle.layer_traits.specs.{declared.queue_edits.QueueBlock.QueueBlock, Layers.QLocking.IsOwners}
use Rattle.layer_traits.specs.Layers.QLocking.{LockRules, LockState, lock_caller, lock_edited}
use Rattle.layer_traits.specs.{Layers.QLocking.owner_in, Threads.Places.home_of}
use Rattle.{layer_traits.specs.Blocks.QueueBlocks.homes_in, thread_blocks.specs.Queues.is_in}

-- a property of a lock is preserved by each call of the owner that another thread makes
abbrev pub IsKeptByOwners : {F R B O : Type 0} → LockRules F R B O → Tid
    → (Option (LockState B) → Type 0) → Type 0
IsKeptByOwners protocol t P =
    (e : QLockCall _ _) (state : LockState _) → IsOwners protocol e state.owner
    → (lock_caller protocol e ≡ t → ⊥) → P (Some state)
    → P (Some (lock_edited protocol e state))

-- a thread of a CPU, and a property of a lock that is preserved by calls of other threads
pub record IsPreserved {F R B O : Type 0} (protocol : LockRules F R B O)
    (opening : LockId → Option (QueueBlock (LockState B))) : Type 1 where
  pub t : Tid
  pub P : Option (LockState B) → Type 0
  pub keeps : IsKeptByOwners protocol t P
  pub c : CpuId
  pub at_home : home_of (homes_in opening) t ≡ Some c
  pub lock : LockId

module _ {F R B O : Type 0} (protocol : LockRules F R B O) (t : Tid) where
  -- the thread has no part in a lock: it neither owns it nor sleeps for it
  abbrev pub HasNothing : Option (LockState B) → Type 0
  HasNothing None = Unit {0}
  HasNothing (Some state) = (state.owner ≢ Some t) × (is_in t state.sleepers ≡ false)

  -- the thread owns a lock
  abbrev pub IsOwner : Option (LockState B) → Type 0
  IsOwner o = owner_in o ≡ Some t
