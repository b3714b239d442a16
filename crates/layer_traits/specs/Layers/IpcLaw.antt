-- The law of the layer of message calls: what it adds to that of the buffers.
use Rattle.std.specs.Prelude.{◌≡◌, ◌⊎◌, ℕ, ◌<◌, List, [], Option, Some, nat_lt, option_map}
use Rattle.std.specs.Prelude.{slice_get, if◌then◌else◌}
use Rattle.event_log.specs.declared.ids.{BufId.BufId, CpuId.CpuId, LockId.LockId}
use Rattle.event_log.specs.declared.ids.{LockId.TheVariants.{Pending, Buffer}, Tid.Tid}
use Rattle.layer_traits.specs.declared.{moves.WaitList.WaitList, calls.{Call.Call, Reply.Reply}}
use Rattle.layer_traits.specs.declared.calls.Reply.TheVariants.{NoBuffer}
use Rattle.layer_traits.specs.declared.queue_edits.QueueBlock.{QueueBlock, TheVariants.Queue}
use Rattle.layer_traits.specs.declared.queue_edits.QueueBlock.TheVariants.{Above}
use Rattle.layer_traits.specs.Threads.Places.{Asleep, At, Step, count_in, one_if, wait_channel_of}
use Rattle.layer_traits.specs.{Threads.{Places.where_is, ListsAgree.is_at}, Polling.Plans.Now}
use Rattle.layer_traits.specs.Blocks.{BufferProtocol.BufferLock, BufferEffects.fresh_lock}
use Rattle.layer_traits.specs.Layers.BufferLaw.{BufferPlan, Buffering, buffer_of, fifo_plan}

-- the waiting lists of the buffers and the threads' places agree by count. A sleeping thread is
-- once on the list of its place, and on no other list. No thread sleeps except at a buffer
pub record WaitListsAgree (buffers : ℕ) (homes : List CpuId) (moves : List Step)
    (lines : BufId → WaitList → List Tid) : Type 0 where
  pub once : (b : BufId) (line : WaitList) (t : Tid) → b.0 < buffers
      → count_in t (lines b line)
      ≡ one_if (is_at (Buffer b) line (wait_channel_of (where_is homes moves t)))
  pub known : (t : Tid) (lock : LockId) (line : WaitList)
      → where_is homes moves t ≡ Asleep (At lock line)
      → (b : BufId) × (lock ≡ Buffer b) × (b.0 < buffers)

-- a call on a number that is not a buffer's: nothing is done
pub record NothingDone {M P : Type 0} (old new : M) (before after : P)
    (answer : Option Reply) : Type 0 where
  pub machine : new ≡ old
  pub part : after ≡ before
  pub answers : answer ≡ Some NoBuffer

-- the plan of a call, with so many buffers
abbrev pub ipc_plan : ℕ → List CpuId → CpuId → Tid → Call → Buffering → BufferPlan Reply
ipc_plan buffers homes c t call local =
    if nat_lt (buffer_of call).0 buffers
    then fifo_plan homes c t call local
    else Now (record { local = local; answer = Some NoBuffer })

-- the opening blocks, as far as a machine shows them. A fresh lock is over an empty buffer of each
-- capacity. There is an empty queue for this CPU and for each thread's home
pub record OpensSo (caps : List ℕ) (homes : List CpuId) (c : CpuId)
    (opening : LockId → Option (QueueBlock BufferLock)) : Type 0 where
  pub buffers : (b : BufId)
      → opening (Buffer b) ≡ option_map (λ capacity. Above (fresh_lock capacity))
      (slice_get caps b.0)
  pub queues : (d : CpuId) → (d ≡ c) ⊎ ((u : Tid) × (slice_get homes u.0 ≡ Some d))
      → (kept : _) × (opening (Pending d) ≡ Some (Queue [] kept))
