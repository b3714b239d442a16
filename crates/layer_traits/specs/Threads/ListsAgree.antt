-- The waiting lists of the locks agree with the places of the threads, by count. A thread is once
-- in the waiting list in which it sleeps, and in no other.
use Rattle.std.specs.Prelude.{◌≡◌, Bool, true, false, ◌&&◌, List, Option, Some, None}
use Rattle.event_log.specs.{declared.ids.{CpuId.CpuId, LockId.LockId, Tid.Tid}, History.same_lock}
use Rattle.event_log.specs.Sections.{block_after}
use Rattle.layer_traits.specs.declared.moves.WaitList.{WaitList, TheVariants.{Sleepers, Receivers}}
use Rattle.layer_traits.specs.declared.moves.WaitList.TheVariants.{Senders}
use Rattle.layer_traits.specs.declared.queue_edits.QueueBlock.{QueueBlock}
use Rattle.layer_traits.specs.{declared.queues.QueueEvent.QueueEvent, Threads.Places.{At, Stands}}
use Rattle.layer_traits.specs.Threads.Places.{Threads, WaitChannel, one_if, count_in}
use Rattle.layer_traits.specs.{Threads.Places.{wait_channel_of, where_is}, Blocks.QueueBlocks.inner}
use Rattle.layer_traits.specs.{Blocks.QueueBlocks.homes_in, Layers.Queues.buffer_sections}
use Rattle.layer_traits.specs.Layers.{Queues.moves_in, Sleeping.{SleepRules, SleepState}}
use Rattle.layer_traits.specs.Layers.{Sleeping.{wait_list_at, sleep_edited}, SleepLaw.sleep_kernel}

-- whether two waiting lists are one
abbrev pub same_list : WaitList → WaitList → Bool
same_list Sleepers Sleepers = true
same_list Receivers Receivers = true
same_list Senders Senders = true
same_list Sleepers Receivers = false
same_list Sleepers Senders = false
same_list Receivers Sleepers = false
same_list Receivers Senders = false
same_list Senders Sleepers = false
same_list Senders Receivers = false

-- whether this is the wait channel on which a thread sleeps, if it sleeps
abbrev pub is_at : LockId → WaitList → Option WaitChannel → Bool
is_at lock line None = false
is_at lock line (Some (At other at)) = same_lock other lock && same_list at line

-- the lists of one lock agree with the wait channels on which threads sleep
abbrev pub Agrees : LockId → (WaitList → List Tid) → (Tid → Option WaitChannel) → Type 0
Agrees lock lines asleep =
    (line : WaitList) (t : Tid) → count_in t (lines line) ≡ one_if (is_at lock line (asleep t))

-- the lists of each lock agree with the places of the threads
abbrev pub ListsAgree : {E B O : Type 0} → SleepRules E B O
    → (LockId → Option (QueueBlock (SleepState B))) → List (QueueEvent E) → Type 0
ListsAgree protocol opening history = (lock : LockId) →
    Agrees lock (λ line. wait_list_at line
    (block_after (sleep_edited protocol) (inner opening) lock (buffer_sections history)))
    (λ t. wait_channel_of (where_is (homes_in opening)
    (moves_in (sleep_kernel protocol opening) history)
    t))

-- the places of a part's threads are at its CPU, each once and no other, and the lists of each lock
-- agree with the places
pub record SleepAgrees {E B O : Type 0} (protocol : SleepRules E B O)
    (opening : LockId → Option (QueueBlock (SleepState B))) (c : CpuId)
    (history : List (QueueEvent E)) (local : Threads) : Type 0 where
  pub stands : Stands (homes_in opening) c (moves_in (sleep_kernel protocol opening) history) local
  pub lists : ListsAgree protocol opening history
