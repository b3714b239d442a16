-- What a system shows, and the invariants that hold after every list of steps.
use Rattle.std.specs.Prelude.{◌≡◌, ◌⊎◌, ℕ, zero, suc, ◌+◌, ◌<◌, ◌≤◌, Bool, true, false, List, []}
use Rattle.std.specs.Prelude.{◌∷◌, map, length, reverse, Option, Some, None, slice_get}
use Rattle.std.specs.{Prelude.slice_index_or, List.AllByRecursion}
use Rattle.event_log.specs.declared.{entries.Entry.Entry, ids.{BufId.BufId, CpuId.CpuId, Tid.Tid}}
use Rattle.event_log.specs.{Actions.Action, Messages.Message, Runs.{IsLegalHistory, is_closed}}
use Rattle.event_log.specs.{Streams.IsFirstInFirstOut, Traces.IsInterleaving}
use Rattle.guest.specs.{declared.instructions.Instruction.Instruction, Calls.AreProgramsCalls}
use Rattle.{guest.specs.Calls.HasEnded, layer_traits.specs.declared.calls.Call.Call}
use Rattle.layer_traits.specs.declared.{calls.{Effect.Effect, Place.Place}, moves.WaitList.WaitList}
use Rattle.layer_traits.specs.declared.moves.WaitList.TheVariants.{Sleepers, Receivers, Senders}
use Rattle.layer_traits.specs.{Blocks.BufferEffects.contents_of, Layers.BufferLaw.Buffering}
use Rattle.layer_traits.specs.Threads.{OnePlace.{InOnePlace, total}, Places.{AreMoves, Stands}}
use Rattle.layer_traits.specs.Threads.Places.{Step, Threads, count_in, home_of, where_is}
use Rattle.layer_traits.specs.Views.Observed.{IsOwnPlace, queue_place}
use Rattle.{thread_blocks.specs.Queues.is_in, cpu.specs.declared.guests.Guest.Guest}
use Rattle.cpu.specs.{Guests.{HasComeIn, is_ended}, Table.{Blocks.Name, Setups.CpuLocal}}
use Rattle.cpu.specs.{Tables.cpu_local, Tower.{Composed.named, Views.TowerName}, Cpus.IsOfHome}
use Rattle.cpu.specs.Cpus.{guest_at, of_thread, programs_of}

-- the threads that sleep at a buffer: for its lock, for a message, for room
pub record Waiters : Type 0 where
  pub sleepers : List Tid
  pub receivers : List Tid
  pub senders : List Tid

-- one CPU: its scheduling state, the guests of its home threads by their numbers, its trace, oldest
-- first, the trace's room, and whether a section is under way
pub record CpuView : Type 0 where
  pub local : Threads
  pub guests : List (Option Guest)
  pub trace : List Entry
  pub limit : ℕ
  pub busy : Bool
  -- the same as the step table's private state, if the machine does one action a step
  pub cpu_local : CpuLocal

-- A system as plain data. For each buffer: its capacity, what it holds, whether it is closed, which
-- threads sleep at it and which owns its lock, as its last section left them. Then the home CPU of
-- each thread, the moves of threads between places, newest first, the CPUs, the room for steps, and
-- how many steps were taken.
pub record SystemView : Type 0 where
  -- the linearization: the calls that took effect, of all CPUs, in the order in which they did
  pub order : List Entry
  pub caps : List ℕ
  pub homes : List CpuId
  pub contents : List (List Message)
  pub closed : List Bool
  pub waiters : List Waiters
  pub owners : List (Option Tid)
  pub moves : List Step
  -- the actions of all CPUs, newest first, under the names of the step table, if the machine does
  -- one action a step
  pub log : List (Action Name)
  pub cpus : List CpuView
  pub room : ℕ
  pub taken : ℕ

-- the values of f at so many numbers, from k upwards
abbrev pub listed : {X : Type 0} → (ℕ → X) → ℕ → ℕ → List X
listed f k zero = []
listed f k (suc n) = f k ∷ listed f (k + 1) n

abbrev pub buffer_at : ℕ → BufId
buffer_at b = record { 0 = b }

-- the threads that sleep at a buffer, from its wait lists
abbrev pub waiters_by : (BufId → WaitList → List Tid) → ℕ → Waiters
waiters_by lines b =
    record {
      sleepers = lines (buffer_at b) Sleepers;
      receivers = lines (buffer_at b) Receivers;
      senders = lines (buffer_at b) Senders;
    }

abbrev pub cpu_shown : Threads → List (Option Guest) → List Entry → ℕ → Bool → Buffering → CpuView
cpu_shown local guests trace limit busy part = record {
  local = local;
  guests = guests;
  trace = trace;
  limit = limit;
  busy = busy;
  cpu_local = cpu_local part guests trace;
}

-- what a machine shows with its CPUs
abbrev pub shown_of : List ℕ → List CpuId → List Entry → (BufId → WaitList → List Tid)
    → (BufId → Option Tid) → List Step → List (Action TowerName)
    → List CpuView → ℕ → ℕ → SystemView
shown_of caps homes history lines owner moves acts cpus room taken = record {
  order = reverse history;
  caps = caps;
  homes = homes;
  contents = contents_of caps history;
  closed = listed (is_closed history) 0 (length caps);
  waiters = listed (waiters_by lines) 0 (length caps);
  owners = listed (λ b. owner (buffer_at b)) 0 (length caps);
  moves = moves;
  log = named acts;
  cpus = cpus;
  room = room;
  taken = taken;
}

-- the traces of the CPUs, and the programs of each one's home threads
abbrev pub traces_of : SystemView → List (List Entry)
traces_of s = map (λ p. p.trace) s.cpus

abbrev pub programs_in : SystemView → List (List (Option (List Instruction)))
programs_in s = map (λ p. programs_of p.guests) s.cpus

-- The calls that took effect, in the order in which they did, keep every trace, are a legal history
-- of FIFO buffers, and end in the buffers' contents. For each buffer the values put are, in that
-- order, the values taken, followed by the contents. A buffer is closed exactly if the order closes
-- it. There are no more calls than steps.
pub record HasLinearization (s : SystemView) : Type 0 where
  pub keeps : IsInterleaving (traces_of s) s.order
  pub run : IsLegalHistory s.caps s.order s.contents
  pub fifo : IsFirstInFirstOut s.order s.contents
  pub closed : (b : ℕ) → b < length s.caps → slice_index_or s.closed b false ≡ is_closed s.order b
  pub few : length s.order ≤ s.taken

-- A thread's entries, oldest first, are its program's calls, and it has ended only at its program's
-- end. They lead to its exact state. This is its present state, between calls or in a call that has
-- not taken effect. After the effect it is the state in which the call will leave it. Therefore
-- each call that returned has taken effect, and at most one took effect that has not returned. A
-- thread is recorded as ended only at its program's end.
pub record Keeps (g : Guest) (told_ended : Bool) (entries : List Entry) : Type 0 where
  pub calls : AreProgramsCalls g.program entries
  pub ends : is_ended g.stage ≡ true → HasEnded g.program g.thread
  pub stands : (begun : Option Call) × (effect : Option Effect)
      × HasComeIn g.stage g.program g.thread (reverse entries) begun effect
  pub over : told_ended ≡ true → is_ended g.stage ≡ true

-- each thread follows its program
abbrev pub MatchesPrograms : SystemView → Type 0
MatchesPrograms s =
    (c : ℕ) (p : CpuView) (t : Tid) (g : Guest) → slice_get s.cpus c ≡ Some p
    → guest_at p.guests t.0 ≡ Some g
    → Keeps g (is_in t p.local.ended) (of_thread t.0 p.trace)

-- each entry in a CPU's trace is of that CPU, and of a thread whose home CPU it is
abbrev pub KeepsAffinity : SystemView → Type 0
KeepsAffinity s =
    (c : ℕ) (p : CpuView) → slice_get s.cpus c ≡ Some p
    → AllByRecursion (IsOfHome s.homes (record { 0 = c })) p.trace

-- What holds at each moment (state) of a run: the calls so far have one order, and each thread's
-- entries lead to its state. Therefore each call that has returned is in the order, and of each
-- thread at most one more, which the thread is inside.
pub record IsRunState (s : SystemView) : Type 0 where
  pub linearization : HasLinearization s
  pub follow : MatchesPrograms s
  pub stay : KeepsAffinity s

-- how often a thread is among those that sleep at a buffer
abbrev pub in_waiters : Tid → Waiters → ℕ
in_waiters t b = count_in t b.sleepers + count_in t b.receivers + count_in t b.senders

abbrev pub no_threads : Threads
no_threads = record { current = None; hand = None; ready = []; ended = [] }

abbrev pub no_waiters : Waiters
no_waiters = record { sleepers = []; receivers = []; senders = [] }

abbrev pub own_in : Option CpuView → Threads
own_in None = no_threads
own_in (Some p) = p.local

-- the scheduling state of CPU k
abbrev pub own_at : SystemView → ℕ → Threads
own_at s k = own_in (slice_get s.cpus k)

-- the threads that sleep at buffer b
abbrev pub waiters_at : SystemView → ℕ → Waiters
waiters_at s b = slice_index_or s.waiters b no_waiters

-- Each thread is in exactly one place of the whole system. It runs or is ready on a CPU, is in one
-- CPU's hand, in one pending queue, asleep in one wait list, or has ended. A number that is no
-- thread's is in no place.
abbrev pub HasUniquePlace : SystemView → Type 0
HasUniquePlace s =
    (t : Tid) → InOnePlace s.homes (length s.cpus) s.moves (own_at s)
    (λ u. total (λ b. in_waiters u (waiters_at s b)) (length s.waiters)) t

-- a thread's place: one CPU's scheduling state gives it, or the moves place the thread in a queue
abbrev pub IsPlaceOf : SystemView → Tid → Place → Type 0
IsPlaceOf s t place =
    ((c : ℕ) × (p : CpuView) × (slice_get s.cpus c ≡ Some p)
    × IsOwnPlace (record { 0 = c }) p.local t place)
    ⊎ (queue_place (where_is s.homes s.moves t) ≡ Some place)

-- Each CPU's scheduling state agrees with the moves of threads. Each move may follow those before
-- it, and each CPU has the threads that the moves leave with it. Each thread's home is one of the
-- CPUs.
pub record MovesAgree (s : SystemView) : Type 0 where
  pub lawful : AreMoves s.homes s.moves
  pub stands : (k : ℕ) (p : CpuView) → slice_get s.cpus k ≡ Some p
      → Stands s.homes (record { 0 = k }) s.moves p.local
  pub within : (t : Tid) (home : CpuId) → home_of s.homes t ≡ Some home → home.0 < length s.cpus
