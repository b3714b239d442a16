-- Native threads at one table: what each has called, and the one order of all their calls.
use Rattle.std.specs.Prelude.{◌≡◌, ℕ, ◌<◌, ◌≤◌, false, List, [], map, length, reverse, slice_get}
use Rattle.std.specs.Prelude.{Option, Some, IsSome}
use Rattle.event_log.specs.declared.{entries.Entry.Entry, ids.{CpuId.CpuId, LockId.LockId}}
use Rattle.event_log.specs.{declared.ids.LockId.TheVariants.Pending, Actions.{Action, acts_of}}
use Rattle.event_log.specs.{Actions.phase, History.IsLawful, Messages.Message, Runs.IsLegalHistory}
use Rattle.event_log.specs.{Streams.IsFirstInFirstOut, Traces.IsInterleaving}
use Rattle.layer_traits.specs.Blocks.{BufferEffects.opening_locks, QueueBlocks.StartsWell}
use Rattle.layer_traits.specs.{Blocks.QueueBlocks.{homes_in, inner}, Threads.OnePlace.cpu_at}
use Rattle.layer_traits.specs.{Polling.Plans.is_in_section, Views.Renaming.viewed}
use Rattle.layer_traits.specs.Protocols.WordsProtocol.{MayCome, edit_of}
use Rattle.{queuing_lock.specs.Nested.nested_lock_of, sleep_wakeup.specs.Nested.state_of}
use Rattle.{table_machine.specs.SeatViews.{IsOver, TableView}, cpu.specs.Claims.{buffer_at, listed}}
use Rattle.cpu.specs.Tower.Views.{TowerName}
use Rattle.cpu_workers.specs.{declared.workers.callers.TheConstants.MOST_CALLS, Callers.CallerView}
use Rattle.cpu_workers.specs.{Callers.IsSameCaller, Closing.{Key, WordsOfTower, acts_in}}
use Rattle.cpu_workers.specs.{Closing.{blocks_read, tower_rules}, Lawful.held_at, Orders.IsTraceOf}
use Rattle.cpu_workers.specs.{Orders.effects_of, Seating.{AnyBlock, tower_acts}}

-- a native has run at its caller, which is the same, and has kept what it promises of itself and of
-- the calls
pub record HasKept {N : Type 0} (Kept : N → N → CallerView → Type 0) (native : N)
    (caller : CallerView) (after : N) (last : CallerView) : Type 0 where
  pub kept : Kept native after last
  pub same : IsSameCaller caller last

-- the caller of a CPU before its first call, of the thread of the same number
pub record IsNewCaller (caps : List ℕ) (c : CpuId) (caller : CallerView) : Type 0 where
  pub cpu_is : caller.cpu ≡ c
  pub thread_is : caller.thread.0 ≡ c.0
  pub caps_are : caller.caps ≡ caps
  pub fresh : caller.calls ≡ []

-- A caller has left its machine, which has seen these actions. Its calls are its CPU's effects in
-- them, once each and in order, and at most `MOST_CALLS`. No section of the CPU is under way.
pub record HasLeftMachine (caller : CallerView) (acts : List (Action TowerName))
    (machine_id : List ℕ) : Type 0 where
  pub site_is : machine_id ≡ caller.machine_id
  pub few : length caller.calls ≤ MOST_CALLS
  pub trace : IsTraceOf caller.cpu caller.caps acts caller.calls
  pub rests : is_in_section (phase caller.cpu acts) ≡ false

-- the native of a CPU has run, as the thread of the same number, with a machine that has seen these
-- actions. It has kept what it promises of itself and of its calls. The calls are the CPU's effects
-- in those actions, once each and in order, and at most `MOST_CALLS`. No section of the CPU is
-- under way.
pub record HasLeftCalls {N : Type 0} (Kept : N → N → CallerView → Type 0) (caps : List ℕ)
    (c : CpuId) (native after : N) (acts : List (Action TowerName))
    : Type 0 where
  pub caller : CallerView
  pub cpu_is : caller.cpu ≡ c
  pub thread_is : caller.thread.0 ≡ c.0
  pub caps_are : caller.caps ≡ caps
  pub kept : Kept native after caller
  pub few : length caller.calls ≤ MOST_CALLS
  pub trace : IsTraceOf c caps acts caller.calls
  pub rests : is_in_section (phase c acts) ≡ false

-- the locks of the tower open for so many CPUs: an empty queue for each, with all threads' homes,
-- and an empty buffer of each capacity under a free lock
pub record OpensWith (cpus : ℕ) (caps : List ℕ) (homes : List CpuId)
    (opening : LockId → Option AnyBlock) : Type 0 where
  pub starts : StartsWell opening
  pub homes_are : homes_in opening ≡ homes
  pub queues : (c : CpuId) → c.0 < cpus → IsSome (opening (Pending c))
  pub locks : inner (viewed nested_lock_of (viewed state_of opening)) ≡ opening_locks caps

-- what is left in the first n buffers among these blocks
abbrev pub left_among : ℕ → List (LockId × AnyBlock) → List (List Message)
left_among n blocks = listed (λ b. held_at (blocks_read blocks) (buffer_at b)) 0 n

-- what one native has done, at its place in these lists, at the CPU and as the thread of its number
pub record HasRunNative {N : Type 0} (Kept : N → N → CallerView → Type 0) (caps : List ℕ) (k : ℕ)
    (native after : N) (caller : CallerView) : Type 0 where
  pub cpu_is : caller.cpu ≡ cpu_at k
  pub thread_is : caller.thread.0 ≡ k
  pub caps_are : caller.caps ≡ caps
  pub kept : Kept native after caller

-- the homes of natives: each thread is at the CPU of its number
abbrev pub own_homes : ℕ → List CpuId
own_homes n = listed cpu_at 0 n

-- This order is that of the effects of the releases in one words log. The log is legal over the
-- locks as they open for so many CPUs.
pub record IsOrderOfWords (cpus : ℕ) (caps : List ℕ) (homes : List CpuId)
    (order : List Entry) : Type 0 where
  pub opening : LockId → Option AnyBlock
  pub opens : OpensWith cpus caps homes opening
  pub words : WordsOfTower
  pub legal : IsLawful (MayCome (tower_rules.allowed opening)) words
  pub order_is : order ≡ reverse (effects_of caps (acts_in words))

-- Natives have run, each at the CPU and as the thread of its number, and have left this in the
-- buffers. Each has kept what it promises of itself and of its calls, and no other thread made a
-- call. The calls of all have one order: that of the atomic steps by which they took effect. It
-- keeps each native's order, is a legal history of FIFO buffers and ends in what is left. Therefore
-- the values put into a buffer are, in that order, the values taken from it, followed by what is
-- left there.
pub record HaveRun {N : Type 0} (Kept : N → N → CallerView → Type 0) (caps : List ℕ)
    (natives after : List N) (left : List (List Message)) : Type 0 where
  pub callers : List CallerView
  pub nobody_else : length callers ≡ length natives
  pub each : (k : ℕ) (native : N) → slice_get natives k ≡ Some native
      → (last : N) × (caller : CallerView) × (slice_get after k ≡ Some last)
      × (slice_get callers k ≡ Some caller) × HasRunNative Kept caps k native last caller
  pub count : length after ≡ length natives
  pub order : List Entry
  pub keeps : IsInterleaving (map (λ c. c.calls) callers) order
  pub run : IsLegalHistory caps order left
  pub fifo : IsFirstInFirstOut order left
  pub by_words : IsOrderOfWords (length natives) caps (own_homes (length natives)) order

-- the native of a CPU has run at this table, and left its key, which is outside all locks
pub record HasLeftKey {N : Type 0} (Kept : N → N → CallerView → Type 0) (caps : List ℕ)
    (table_view : TableView AnyBlock) (c : CpuId) (native after : N)
    (key : Key) : Type 0 where
  pub cpu_is : key.cpu ≡ c
  pub over : IsOver table_view key
  pub calls : HasLeftCalls Kept caps c native after (tower_acts (acts_of edit_of key.history))

-- all have, one for each CPU
pub record HaveLeftKeys {N : Type 0} (Kept : N → N → CallerView → Type 0) (caps : List ℕ)
    (table_view : TableView AnyBlock) (natives after : List N)
    (keys : List Key) : Type 0 where
  pub count : length after ≡ length natives
  pub keys_count : length keys ≡ length natives
  pub each : (k : ℕ) (native : N) → slice_get natives k ≡ Some native
      → (last : N) × (key : Key) × (slice_get after k ≡ Some last)
      × (slice_get keys k ≡ Some key) × HasLeftKey Kept caps table_view (cpu_at k) native last key
