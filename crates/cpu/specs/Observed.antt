-- What a system reports of its CPUs, its queues and its buffers is what the step table has there.
use Rattle.std.specs.Prelude.{◌≡◌, ℕ, ◌<◌, ◌≤◌, true, false, List, [], length, Some, None}
use Rattle.std.specs.Prelude.{slice_get, slice_index, slice_index_or}
use Rattle.event_log.specs.declared.{entries.Kind.Kind, ids.BufId.BufId}
use Rattle.event_log.specs.declared.ids.{LockId.TheVariants.{Buffer as AtBuffer, Pending}, Tid.Tid}
use Rattle.event_log.specs.{declared.ids.{TheConstants.THREADS, CpuId.CpuId}, Actions.phase}
use Rattle.event_log.specs.{Buffers.{IsAllowedEffect, items_of}, Messages.Message, Runs.Group}
use Rattle.event_log.specs.Runs.{Receives, Sends, group_of}
use Rattle.layer_traits.specs.declared.{calls.Place.Place, locked.Side.Side}
use Rattle.layer_traits.specs.{Threads.Places.pending_by, Polling.Plans.is_in_section}
use Rattle.{thread_blocks.specs.Queues.is_in, cpu.specs.Claims.{CpuView, IsPlaceOf, SystemView}}
use Rattle.cpu.specs.{Claims.{waiters_at, buffer_at}, Cpus.cpu_halted_at, Sound.IsSetupFor}
use Rattle.cpu.specs.{Systems.whole_of, Wakeups.Quiet.{IsLive, IsNextEffect, IsStuck}}
use Rattle.cpu.specs.Table.{Blocks.{Buffer, OfBuffer, OfPending, front, stands_in}, Setups.CpuLocal}
use Rattle.cpu.specs.Table.Setups.{SystemConfig, home_cpu, stands_at, thread_at}
use Rattle.cpu.specs.Table.{Steps.{SystemState, block_at, cpu_numbered, halted_at}, Edits.line_on}
use Rattle.cpu.specs.Table.Edits.{on_side}
use Rattle.layer_traits.specs.declared.calls.Place.TheVariants as place

-- CPU c of the table has a private state that satisfies this predicate
abbrev pub CpuHas : SystemState → CpuId → (CpuLocal → Type 0) → Type 0
CpuHas w c Has = (p : CpuLocal) × (slice_get w.cpus c.0 ≡ Some p) × Has p

-- the table has buffer b, and it satisfies this predicate
abbrev pub BlockHas : SystemConfig → SystemState → BufId → (Buffer → Type 0) → Type 0
BlockHas setup w b Has =
    (k : Buffer) × (block_at setup (AtBuffer b) w.log ≡ Some (OfBuffer k)) × Has k

-- thread t is at this place according to the table's lists: those of a CPU's private state, its
-- pending queue, or those of a buffer
abbrev pub IsPlaceByTable : SystemConfig → SystemState → Tid → Place → Type 0
IsPlaceByTable setup w t (place.Running c) = CpuHas w c (λ p. p.current ≡ Some t)
IsPlaceByTable setup w t (place.Ready c) = CpuHas w c (λ p. stands_in t p.ready ≡ true)
IsPlaceByTable setup w t (place.Pending c) =
    (queue : List Tid) × (block_at setup (Pending c) w.log ≡ Some (OfPending queue))
    × (stands_in t queue ≡ true)
IsPlaceByTable setup w t (place.Hand c) = CpuHas w c (λ p. p.hand ≡ Some t)
IsPlaceByTable setup w t (place.LockSleeper b) =
    BlockHas setup w b (λ k. stands_in t k.sleepers ≡ true)
IsPlaceByTable setup w t (place.WaitRecv b) =
    BlockHas setup w b (λ k. stands_in t k.waiting_receivers ≡ true)
IsPlaceByTable setup w t (place.WaitSend b) =
    BlockHas setup w b (λ k. stands_in t k.waiting_senders ≡ true)
IsPlaceByTable setup w t place.Ended =
    CpuHas w (home_cpu setup t) (λ p. (thread_at p t).ended ≡ true)

-- the system reports CPU k as it is: whether it has a section under way, why it is halted, its
-- threads, its trace, which threads have ended, and which are pending for it
pub record CpuIsObserved (setup : SystemConfig) (s : SystemView) (k : ℕ) (p : CpuView) : Type
    0 where
  pub inside : is_in_section (phase (cpu_numbered k) s.log) ≡ p.busy
  pub halted : halted_at setup (cpu_numbered k) p.cpu_local
      ≡ cpu_halted_at p.local p.guests p.trace p.limit
  pub current : p.cpu_local.current ≡ p.local.current
  pub ready : p.cpu_local.ready ≡ p.local.ready
  pub hand : p.cpu_local.hand ≡ p.local.hand
  pub trace : p.cpu_local.trace ≡ p.trace
  pub ended : (t : Tid) → t.0 < length s.homes
      → (thread_at p.cpu_local t).ended ≡ is_in t p.local.ended
  pub pending : block_at setup (Pending (cpu_numbered k)) s.log
      ≡ Some (OfPending (pending_by s.moves (cpu_numbered k)))

-- the system reports buffer b as it is: which thread owns its lock, which sleep at it and which
-- wait, what it holds, its capacity, and whether it is closed
pub record BufferIsObserved (s : SystemView) (b : ℕ) (k : Buffer) : Type 0 where
  pub owner : slice_index_or s.owners b None ≡ k.busy
  pub sleepers : (waiters_at s b).sleepers ≡ k.sleepers
  pub receivers : (waiters_at s b).receivers ≡ k.waiting_receivers
  pub senders : (waiters_at s b).senders ≡ k.waiting_senders
  pub items : items_of s.contents b ≡ k.items
  pub capacity : slice_index s.caps b ≡ k.capacity
  pub closed : slice_index_or s.closed b false ≡ k.closed

-- buffer b, as the system reports it, allows an effect of this kind with this message
abbrev pub AllowsNow : SystemView → ℕ → Kind → Message → Type 0
AllowsNow s b e m =
    IsAllowedEffect e (slice_index_or s.closed b false) (slice_index s.caps b)
    (items_of s.contents b) m

-- No lost wake-up at buffer b, in terms of what the system reports. While no thread owns its lock,
-- the first thread of neither wait queue waits although the buffer allows an effect of its call.
pub record IsAwakeAt (s : SystemView) (b : ℕ) (k : Buffer) : Type 0 where
  pub on : (side : Side) → slice_index_or s.owners b None ≡ None → (t : Tid) (m : Message)
      → front (line_on side k) ≡ Some t
      → stands_in t (on_side side (waiters_at s b).receivers (waiters_at s b).senders) ≡ true
      → (e : Kind) → group_of e ≡ on_side side Receives Sends → AllowsNow s b e m → ⊥

-- the table has buffer b, and the system reports it as it is
pub record HasBuffer (setup : SystemConfig) (s : SystemView) (b : ℕ) : Type 0 where
  pub buffer : Buffer
  pub there : block_at setup (AtBuffer (buffer_at b)) s.log ≡ Some (OfBuffer buffer)
  pub observed : BufferIsObserved s b buffer
  pub awake : IsAwakeAt s b buffer

-- the system reports each CPU, each buffer and the place of each thread as it is; there is a CPU,
-- and there are no more threads than a machine may have
pub record ObservedByTable (s : SystemView) : Type 0 where
  pub cpus : (setup : SystemConfig) → IsSetupFor setup s → (k : ℕ) (p : CpuView)
      → slice_get s.cpus k ≡ Some p → CpuIsObserved setup s k p
  pub buffers : (setup : SystemConfig) → IsSetupFor setup s → (b : ℕ) → b < length s.caps
      → HasBuffer setup s b
  pub places : (setup : SystemConfig) → IsSetupFor setup s → (t : Tid) (at : Place)
      → t.0 < length s.homes
      → IsPlaceOf s t at
      → IsPlaceByTable setup (whole_of s) t at
  pub some : 0 < length s.cpus
  pub few : length s.homes ≤ THREADS

-- In a quiescent system no thread can make progress. No live thread has a next effect that its
-- buffer, as the system reports it, allows. No thread owns the lock of a buffer or sleeps at one,
-- and no thread's place is among the sleepers of a lock.
pub record NoThreadCanProceed (s : SystemView) : Type 0 where
  pub stuck : (setup : SystemConfig) → IsSetupFor setup s → IsStuck setup (whole_of s)
  pub refused : (setup : SystemConfig) → IsSetupFor setup s → (p : CpuLocal) (u : Tid)
      → IsLive setup (whole_of s) p u
      → (e : Kind) (asks : Group) (b : BufId) (m : Message)
      → b.0 < length s.caps → group_of e ≡ asks
      → IsNextEffect (stands_at setup p u) (thread_at p u).guest asks b m → AllowsNow s b.0 e m → ⊥
  pub unowned : (setup : SystemConfig) → IsSetupFor setup s → (b : ℕ) → b < length s.caps
      → slice_index_or s.owners b None ≡ None
  pub awake : (setup : SystemConfig) → IsSetupFor setup s → (b : ℕ) → b < length s.caps
      → (waiters_at s b).sleepers ≡ []
  pub nobody : (setup : SystemConfig) → IsSetupFor setup s → (t : Tid) (b : BufId)
      → t.0 < length s.homes
      → IsPlaceOf s t (place.LockSleeper b) → ⊥
