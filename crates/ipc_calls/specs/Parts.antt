-- What a part of message calls keeps for itself, and what it reports of a thread's place.
use Rattle.std.specs.Prelude.{◌≡◌, ℕ, ◌<◌, Bool, false, ◌||◌, List, Option, Some, None, option_map}
use Rattle.std.specs.{Prelude.option_and_then, Option.option_or}
use Rattle.event_log.specs.declared.ids.{BufId.BufId, CpuId.CpuId, Tid.Tid}
use Rattle.layer_traits.specs.declared.{calls.Place.Place, moves.WaitList.WaitList}
use Rattle.layer_traits.specs.declared.moves.WaitList.TheVariants.{Sleepers, Receivers, Senders}
use Rattle.layer_traits.specs.Views.Owned.{BufferShown, lists_shown, wait_list_among}
use Rattle.layer_traits.specs.Threads.Places.{Threads, is_thread}
use Rattle.thread_blocks.specs.Queues.{is_in}
use Rattle.layer_traits.specs.declared.calls.Place.TheVariants as place

-- it keeps the number of its CPU, the home CPUs of the threads, and the number of buffers
pub record KeepsPlan (homes : List CpuId) (buffers : ℕ) (number cpu : CpuId) (kept : List CpuId)
    (count : ℕ) : Type 0 where
  pub number_is : number ≡ cpu
  pub homes_are : kept ≡ homes
  pub count_is : buffers ≡ count

-- a thread is not in the CPU's scheduling state
pub record IsAway (t : Tid) (local : Threads) : Type 0 where
  pub current : is_thread t local.current ≡ false
  pub hand : is_thread t local.hand ≡ false
  pub ready : is_in t local.ready ≡ false
  pub ended : is_in t local.ended ≡ false

-- whether a report says yes
abbrev pub said : Option Bool → Bool
said None = false
said (Some abstract_answer) = abstract_answer

-- whether the machine or the part reports that a thread is in a pending queue
abbrev pub pends_read : Tid → Option (List Tid) → Option (List Tid) → Bool
pends_read t home here = said (option_map (is_in t) home) || said (option_map (is_in t) here)

-- the wait list of a buffer that contains a thread, as the machine or the part reports it
abbrev pub wait_list_read : Tid → Option (WaitList → List Tid) → Option (WaitList → List Tid)
    → Option WaitList
wait_list_read t home here =
    option_or (option_and_then (wait_list_among t) home) (option_and_then (wait_list_among t) here)

-- the same of what the machine or the part reports that a buffer shows
abbrev pub waits_read : Tid → Option BufferShown → Option BufferShown → Option WaitList
waits_read t home here =
    wait_list_read t (option_map lists_shown home) (option_map lists_shown here)

-- the place of a thread that sleeps in this wait list of a buffer
abbrev pub asleep_at : BufId → WaitList → Place
asleep_at b Sleepers = place.LockSleeper b
asleep_at b Receivers = place.WaitRecv b
asleep_at b Senders = place.WaitSend b

-- A part can report nothing of a thread's place. The thread is not in the CPU's scheduling state.
-- Neither the machine nor the part reports it in the pending queue of its home CPU or in a wait
-- list of a buffer.
pub record IsSilentOf (t : Tid) (local : Threads) (home : Option CpuId) (buffers : ℕ)
    (queue_at queue_with : CpuId → Option (List Tid))
    (wait_lists_at wait_lists_with : BufId → Option (WaitList → List Tid)) : Type 0 where
  pub away : IsAway t local
  pub pends : (d : CpuId) → home ≡ Some d → pends_read t (queue_at d) (queue_with d) ≡ false
  pub wait_lists : (b : BufId) → b.0 < buffers
      → wait_list_read t (wait_lists_at b) (wait_lists_with b) ≡ None
