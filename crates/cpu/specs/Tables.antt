-- A CPU's step is the step table's.
use Rattle.std.specs.Prelude.{◌≡◌, ℕ, true, List, [], length, map, Option, Some, None}
use Rattle.layer_traits.specs.{Views.OwnParts.threads_in, declared.passes.Pass.Pass}
use Rattle.layer_traits.specs.{declared.steps.Step.Step, Polling.Along.IsStep}
use Rattle.layer_traits.specs.Threads.{Passes.IsLocalPass, Places.home_of}
use Rattle.layer_traits.specs.Layers.BufferLaw.{Buffering, UnderWay, Passing}
use Rattle.event_log.specs.declared.{entries.Entry.Entry, ids.{CpuId.CpuId, LockId.LockId, Tid.Tid}}
use Rattle.{event_log.specs.Actions.Action, guest.specs.State.{State, at_start}}
use Rattle.{thread_blocks.specs.Queues.is_in, cpu.specs.declared.guests.Guest.Guest}
use Rattle.cpu.specs.{Guests.is_ended, Cpus.guest_at, Table.Setups.{SystemConfig, CpuLocal}}
use Rattle.cpu.specs.{Table.{Setups.program_of, Steps.cpu_step}, Tower.Views.TowerBlock}
use Rattle.cpu.specs.Tower.{Views.TowerName, Privates.cpu_local_of, Composed.{OpensAs, named}}
use Rattle.cpu.specs.Tower.Positions.{IsPart}

-- the guests' states; a thread of another home stays at its start
abbrev pub guest_state_of : Option Guest → State
guest_state_of None = at_start
guest_state_of (Some g) = g.thread

abbrev pub guest_states : List (Option Guest) → List State
guest_states guests = map guest_state_of guests

-- a CPU as the table's private state
abbrev pub cpu_local : Buffering → List (Option Guest) → List Entry → CpuLocal
cpu_local local guests trace = cpu_local_of local (guest_states guests) trace

-- a setup of a machine with these homes and capacities, for a CPU with these guests and this limit
-- of its trace; the programs of other homes are arbitrary
pub record IsSetupOf (setup : SystemConfig) (homes : List CpuId) (caps : List ℕ)
    (guests : List (Option Guest)) (limit : ℕ) : Type 0 where
  pub homes_are : setup.homes ≡ homes
  pub caps_are : setup.caps ≡ caps
  pub room_is : setup.trace_room ≡ limit
  pub programs_are : (t : Tid) (g : Guest) → guest_at guests t.0 ≡ Some g
      → program_of setup t ≡ g.program

-- a setup without programs
abbrev pub bare : List CpuId → List ℕ → SystemConfig
bare homes caps = record { cpus = 0; homes = homes; programs = []; caps = caps; trace_room = 0 }

-- what the step table adds to a CPU's invariant
pub record IsTabled (homes : List CpuId) (caps : List ℕ) (number : CpuId) (local : Buffering)
    (under_way : Option UnderWay) (guests : List (Option Guest))
    (opening : LockId → Option TowerBlock) : Type 0 where
  -- all threads are in a state that its part allows, and the opening blocks are the table's
  pub part : IsPart local
  pub opens : OpensAs (bare homes caps) number opening
  -- it has guests only of its home threads, each guest that has ended is among the ended, and the
  -- table of guests has a place for each thread
  pub only : (t : Tid) (g : Guest) → guest_at guests t.0 ≡ Some g → home_of homes t ≡ Some number
  pub ends : (t : Tid) (g : Guest) → guest_at guests t.0 ≡ Some g → is_ended g.stage ≡ true
      → is_in t (threads_in local).ended ≡ true
  pub size : length guests ≡ length homes
  -- a pass that touches nothing shared is never under way
  pub quick : (p : Pass) → under_way ≡ Some (Passing p) → IsLocalPass p → ⊥

-- a CPU went from the old part, guests, trace and actions to the new ones by one step of the table,
-- under every setup of its machine
abbrev pub WentByTable : (CpuId → Type 0) → List CpuId → List ℕ → CpuId → ℕ
    → (local own2 : Buffering)
    → (guests guests2 : List (Option Guest))
    → (trace trace2 : List Entry) → (old new : List (Action TowerName)) → Step → Type 0
WentByTable ActsFor homes caps number limit local own2 guests guests2 trace trace2 old new answer =
    (setup : SystemConfig) → IsSetupOf setup homes caps guests limit
    → IsStep ActsFor (cpu_step setup number) (cpu_local local guests trace)
    (cpu_local own2 guests2 trace2) (named old) (named new) answer
