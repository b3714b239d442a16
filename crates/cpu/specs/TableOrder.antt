-- The step table is linearizable (Herlihy and Wing 1990), with respect to the steps of a schedule.
-- Each call takes effect in one step, and the one order of calls is that of these steps.
use Rattle.std.specs.Prelude.{◌≡◌, ℕ, ◌+◌, ◌-◌, ◌^◌, ◌<◌, ◌≤◌, List, [], ◌∷◌, ◌++◌, drop, length}
use Rattle.std.specs.{Prelude.{take, Option, Some, None, slice_get, if◌then◌else◌}, List.All}
use Rattle.std.specs.List.{AllByRecursion}
use Rattle.event_log.specs.declared.{entries.Entry.Entry, ids.{BufId.BufId, CpuId.CpuId, Tid.Tid}}
use Rattle.event_log.specs.{declared.ids.LockId.TheVariants.Buffer as AtBuffer, Buffers.items_of}
use Rattle.{event_log.specs.{Messages.Message, Runs.IsLegalHistory}, cpu.specs.Cpus.of_cpu}
use Rattle.cpu.specs.{Cpus.of_thread, Sound.after_steps, Wakeups.Quiet.AreFew, Table.Blocks.Buffer}
use Rattle.cpu.specs.Table.{Blocks.OfBuffer, Setups.{Call, CpuLocal, SystemConfig, has_none}}
use Rattle.cpu.specs.Table.{Setups.thread_at, Steps.{SystemState, block_at, system_step}}
use Rattle.cpu.specs.Table.Steps.{whole_at_boot}

-- the trace of CPU c
abbrev pub trace_in : Option CpuLocal → List Entry
trace_in None = []
trace_in (Some p) = p.trace

abbrev pub trace_at : CpuId → SystemState → List Entry
trace_at c s = trace_in (slice_get s.cpus c.0)

-- the calls that take effect in these steps, in the order of the steps: what each step appends to
-- the trace of its CPU
abbrev pub order_by_steps : SystemConfig → List CpuId → SystemState → List Entry
order_by_steps setup [] s = []
order_by_steps setup (c ∷ more) s =
    drop (length (trace_at c s)) (trace_at c (system_step setup c s).next)
    ++ order_by_steps setup more (system_step setup c s).next

-- A state with the order of the calls so far. The order is a legal history of FIFO buffers, which
-- begin empty, and it ends in what the buffers hold. Each CPU's trace is its entries in the order,
-- which has no others.
pub record HasOrder (setup : SystemConfig) (s : SystemState) (order : List Entry) : Type 0 where
  pub left : List (List Message)
  pub run : IsLegalHistory setup.caps order left
  pub holds : (b : BufId) (k : Buffer) → block_at setup (AtBuffer b) s.log ≡ Some (OfBuffer k)
      → items_of left b.0 ≡ k.items
  pub keeps : (c : CpuId) → c.0 < setup.cpus → trace_at c s ≡ of_cpu c order
  pub known : AllByRecursion (λ e. e.cpu.0 < setup.cpus) order

-- the theorem, for every schedule of the setup's CPUs
abbrev pub TableHasOneOrder : Type 0
TableHasOneOrder =
    (setup : SystemConfig) (room : ℕ) (steps : List CpuId) → AreFew setup
    → All (λ c. c.0 < setup.cpus) steps → length steps < 2 ^ 64
    → HasOrder setup (after_steps setup steps (whole_at_boot setup room))
    (order_by_steps setup steps (whole_at_boot setup room))

-- Real time, as Herlihy and Wing define it.

-- how many calls of a thread have returned, and how many have begun, if so many took effect and
-- this one is under way
abbrev pub returned_with : Option Call → ℕ → ℕ
returned_with None effects = effects
returned_with (Some call) effects = if has_none call.effect then effects else effects - 1

abbrev pub begun_with : Option Call → ℕ → ℕ
begun_with None effects = effects
begun_with (Some call) effects = if has_none call.effect then effects + 1 else effects

-- the entries of a CPU's thread
abbrev pub thread_entries : CpuId → Tid → List Entry → List Entry
thread_entries c t es = of_thread t.0 (of_cpu c es)

-- how many calls of a CPU's thread have returned, and how many have begun, in the CPU's present
-- state
abbrev pub calls_returned : CpuLocal → Tid → ℕ
calls_returned p t = returned_with (thread_at p t).call (length (of_thread t.0 p.trace))

abbrev pub calls_begun : CpuLocal → Tid → ℕ
calls_begun p t = begun_with (thread_at p t).call (length (of_thread t.0 p.trace))

-- call i of the CPU's thread, counted from 0, is at this place of the order
pub record StandsAt (c : CpuId) (t : Tid) (i : ℕ) (order : List Entry) (place : ℕ) : Type 0 where
  pub entry : Entry
  pub there : slice_get order place ≡ Some entry
  pub cpu : entry.cpu.0 ≡ c.0
  pub thread : entry.thread.0 ≡ t.0
  pub before : length (thread_entries c t (take place order)) ≡ i

-- At each moment of a run: if call i of one thread has returned and call j of another has not
-- begun, then i is before j in the order of all calls.
abbrev pub TableKeepsRealTime : Type 0
TableKeepsRealTime =
    (setup : SystemConfig) (room : ℕ) (earlier later : List CpuId)
    → All (λ c. c.0 < setup.cpus) earlier
    → (c d : CpuId) (p q : CpuLocal)
    → slice_get (after_steps setup earlier (whole_at_boot setup room)).cpus c.0 ≡ Some p
    → slice_get (after_steps setup earlier (whole_at_boot setup room)).cpus d.0 ≡ Some q
    → (t u : Tid) (i j m n : ℕ) → i < calls_returned p t → calls_begun q u ≤ j
    → StandsAt c t i (order_by_steps setup (earlier ++ later) (whole_at_boot setup room)) m
    → StandsAt d u j (order_by_steps setup (earlier ++ later) (whole_at_boot setup room)) n
    → m < n
