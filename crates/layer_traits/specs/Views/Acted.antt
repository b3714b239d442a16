-- What the layers report of threads is what the sections of the actions make of it.
use Rattle.std.specs.Prelude.{◌≡◌, ℕ, Bool, List, Option, Some, map}
use Rattle.event_log.specs.declared.ids.{BufId.BufId, CpuId.CpuId, LockId.LockId}
use Rattle.event_log.specs.declared.ids.{LockId.TheVariants.{Pending, Buffer}, Tid.Tid}
use Rattle.event_log.specs.{Actions.Action, Messages.Message, Sections.{block_after, sections_in}}
use Rattle.layer_traits.specs.declared.{buffer_edits.BufferEdit.BufferEdit, moves.WaitList.WaitList}
use Rattle.layer_traits.specs.declared.queue_edits.{QueueBlock.QueueBlock, QueueEdit.QueueEdit}
use Rattle.layer_traits.specs.Blocks.BufferProtocol.{BufferLock, buffer_rules}
use Rattle.layer_traits.specs.Blocks.{QueueBlocks.{above_of, with_queue}, QueueRules.queue_edited}
use Rattle.layer_traits.specs.Layers.{Conditions.CvCall, QLockLaw.lock_kernel}
use Rattle.layer_traits.specs.Layers.QLocking.{wait_list_in, lock_edited, owner_in}
use Rattle.layer_traits.specs.{Layers.Queues.{event_of, moves_in}, Threads.Places.Step}
use Rattle.layer_traits.specs.Threads.Places.{pending_by}

-- the actions on the locks of buffers and of pending queues, newest first
abbrev pub BufferActs : Type 0
BufferActs = List (Action (QueueEdit (CvCall BufferEdit)))

-- what a lock guards after these actions: its opening block, edited by each section in turn
abbrev pub guarded : (LockId → Option (QueueBlock BufferLock)) → BufferActs → LockId
    → Option (QueueBlock BufferLock)
guarded opening acts lock =
    block_after (queue_edited (lock_edited buffer_rules)) opening lock (sections_in acts)

-- the owner of a buffer's lock after these actions
abbrev pub owner_after : (LockId → Option (QueueBlock BufferLock)) → BufferActs → BufId → Option Tid
owner_after opening acts b = owner_in (above_of (guarded opening acts (Buffer b)))

-- a buffer has a lock after these actions, and under it these items, first in front, and this
-- capacity; and it is closed or not
pub record ItemsAre (opening : LockId → Option (QueueBlock BufferLock)) (acts : BufferActs)
    (b : BufId) (items : List Message) (capacity : ℕ)
    (closed : Bool) : Type 0 where
  pub lock : BufferLock
  pub there : above_of (guarded opening acts (Buffer b)) ≡ Some lock
  pub holds : items ≡ lock.above.items
  pub may_hold : capacity ≡ lock.above.capacity
  pub shut : closed ≡ lock.above.closed

-- the moves are those of the actions' sections. Each pending queue that exists therefore holds the
-- threads that are pending according to the moves; and the waiting lists of each buffer are those
-- of its lock
pub record MovesAre (opening : LockId → Option (QueueBlock BufferLock)) (acts : BufferActs)
    (moves : List Step) (lines : BufId → WaitList
    → List Tid) : Type 0 where
  pub made : moves ≡ moves_in (lock_kernel buffer_rules opening) (map event_of (sections_in acts))
  pub pending : (d : CpuId)
      → guarded opening acts (Pending d) ≡ with_queue (pending_by moves d) (opening (Pending d))
  pub waiting : (b : BufId) (line : WaitList)
      → lines b line ≡ wait_list_in line (above_of (guarded opening acts (Buffer b)))
