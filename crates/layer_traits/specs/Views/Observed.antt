-- What a machine and its parts report: of a block, what is true of it; of a thread, its place.
use Rattle.std.specs.Prelude.{◌≡◌, ◌⊎◌, ◌<◌, true, Option, Some, None}
use Rattle.event_log.specs.declared.ids.{CpuId.CpuId, Tid.Tid, TheConstants.CPUS}
use Rattle.layer_traits.specs.declared.{calls.Place.Place, moves.WaitList.TheVariants.Sleepers}
use Rattle.layer_traits.specs.declared.moves.WaitList.TheVariants.{Receivers, Senders}
use Rattle.layer_traits.specs.{Views.Owned.IsHeld, Threads.Places.{Where, Home, Hand, IsPending}}
use Rattle.layer_traits.specs.Threads.Places.{Asleep, At, Threads}
use Rattle.thread_blocks.specs.Queues.{is_in}
use Rattle.event_log.specs.declared.ids.LockId.TheVariants as lock
use Rattle.layer_traits.specs.declared.calls.Place.TheVariants as place

-- what the machine or a part reports is true, and some CPU holds what the machine does not report
pub record IsObservedAs {P A : Type 0} (Coupled : P → Type 0) (cpu_of : P → CpuId)
    (IsInside : CpuId → Type 0) (here : P → Option A)
    (home : Option A) (truth : A) : Type 0 where
  pub by_machine : (x : A) → home ≡ Some x → x ≡ truth
  pub by_part : (p : P) (x : A) → Coupled p → here p ≡ Some x → x ≡ truth
  pub somewhere : home ≡ None → IsHeld Coupled cpu_of IsInside here

-- a CPU may report the place of a thread: it is the thread's home, it has the thread in its hand,
-- or it may hold a lock
abbrev pub MayObserve : (CpuId → Type 0) → Option CpuId → Where → CpuId → Type 0
MayObserve IsInside home where_it_is c =
    (home ≡ Some c) ⊎ ((where_it_is ≡ Hand c) ⊎ ((c.0 < CPUS) × IsInside c))

-- the parts of one CPU report the place of a thread
pub record ReadsPlace {P : Type 0} (Coupled : P → Type 0) (cpu_of : P → CpuId)
    (IsInside : CpuId → Type 0) (IsSilent : P → Type 0)
    (home : Option CpuId) (where_it_is : Where) : Type 0 where
  pub cpu : CpuId
  pub may : MayObserve IsInside home where_it_is cpu
  pub has : (p : P) → cpu_of p ≡ cpu → Coupled p → IsSilent p → ⊥

-- the queue of a thread that is not with a CPU: a pending queue, or a waiting list of a buffer
abbrev pub queue_place : Where → Option Place
queue_place Home = None
queue_place (Hand c) = None
queue_place (IsPending c) = Some (place.Pending c)
queue_place (Asleep (At (lock.Pending c) line)) = None
queue_place (Asleep (At (lock.Buffer b) Sleepers)) = Some (place.LockSleeper b)
queue_place (Asleep (At (lock.Buffer b) Receivers)) = Some (place.WaitRecv b)
queue_place (Asleep (At (lock.Buffer b) Senders)) = Some (place.WaitSend b)

-- a thread is here among the CPU's own threads
abbrev pub IsOwnPlace : CpuId → Threads → Tid → Place → Type 0
IsOwnPlace cpu local t (place.Running c) = (c ≡ cpu) × (local.current ≡ Some t)
IsOwnPlace cpu local t (place.Ready c) = (c ≡ cpu) × (is_in t local.ready ≡ true)
IsOwnPlace cpu local t (place.Pending c) = ⊥
IsOwnPlace cpu local t (place.Hand c) = (c ≡ cpu) × (local.hand ≡ Some t)
IsOwnPlace cpu local t (place.LockSleeper b) = ⊥
IsOwnPlace cpu local t (place.WaitRecv b) = ⊥
IsOwnPlace cpu local t (place.WaitSend b) = ⊥
IsOwnPlace cpu local t place.Ended = is_in t local.ended ≡ true
