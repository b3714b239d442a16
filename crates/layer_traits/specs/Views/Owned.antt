-- What a machine and its parts report of a block: it is in the machine, or a CPU that may hold its
-- lock holds it.
use Rattle.std.specs.Prelude.{◌≡◌, ◌≢◌, ◌<◌, Bool, List, Option, Some, None, if◌then◌else◌}
use Rattle.event_log.specs.declared.ids.{CpuId.CpuId, Tid.Tid, TheConstants.CPUS}
use Rattle.layer_traits.specs.declared.moves.WaitList.{WaitList, TheVariants.{Sleepers, Receivers}}
use Rattle.layer_traits.specs.declared.moves.WaitList.TheVariants.{Senders}
use Rattle.layer_traits.specs.Layers.{QLocking.LockState, Sleeping.SleepState}
use Rattle.{event_log.specs.Messages.Message, thread_blocks.specs.Queues.is_in}

-- a CPU of the machine that may hold a lock holds it: each part of that CPU has something to report
pub record IsHeld {P A : Type 0} (Coupled : P → Type 0) (cpu_of : P → CpuId)
    (IsInside : CpuId → Type 0) (here : P → Option A) : Type 0 where
  pub cpu : CpuId
  pub known : cpu.0 < CPUS
  pub inside : IsInside cpu
  pub has : (p : P) → cpu_of p ≡ cpu → Coupled p → here p ≢ None

-- what the machine or a part reports is true, and some CPU holds what the machine does not report
pub record IsObserved {P A : Type 0} (Coupled : P → Type 0) (cpu_of : P → CpuId)
    (IsInside : CpuId → Type 0) (here : P → Option A)
    (home truth : Option A) : Type 0 where
  pub by_machine : (x : A) → home ≡ Some x → truth ≡ Some x
  pub by_part : (p : P) (x : A) → Coupled p → here p ≡ Some x → truth ≡ Some x
  pub somewhere : home ≡ None → IsHeld Coupled cpu_of IsInside here

-- the first of these waiting lists that has a thread
abbrev pub wait_list_among : Tid → (WaitList → List Tid) → Option WaitList
wait_list_among t lines =
    if is_in t (lines Sleepers) then Some Sleepers
    else (if is_in t (lines Receivers) then Some Receivers
    else (if is_in t (lines Senders) then Some Senders else None))

-- a block with waiting lists, as a lock without an owner
abbrev pub unowned_lock : {B : Type 0} → SleepState B → LockState B
unowned_lock state =
    record {
      owner = None;
      sleepers = state.sleepers;
      receivers = state.receivers;
      senders = state.senders;
      above = state.above;
    }

-- what a buffer shows: its items, front first, whether it is closed, its lock's owner, and its
-- waiting lists
pub record BufferShown : Type 0 where
  pub items : List Message
  pub closed : Bool
  pub owner : Option Tid
  pub sleepers : List Tid
  pub receivers : List Tid
  pub senders : List Tid

-- its waiting lists
abbrev pub lists_shown : BufferShown → WaitList → List Tid
lists_shown shown Sleepers = shown.sleepers
lists_shown shown Receivers = shown.receivers
lists_shown shown Senders = shown.senders

-- a buffer that shows this
abbrev pub shows : List Message → Bool → Option Tid → (WaitList → List Tid) → BufferShown
shows items closed owner lists =
    record {
      items = items;
      closed = closed;
      owner = owner;
      sleepers = lists Sleepers;
      receivers = lists Receivers;
      senders = lists Senders;
    }
