-- The effects of a list of actions, and a CPU's trace among them.
use Rattle.std.specs.Prelude.{◌≡◌, ℕ, ◌≤◌, Bool, true, List, length, map, reverse, Some, None}
use Rattle.std.specs.{Prelude.slice_index_or, List.AllByRecursion}
use Rattle.event_log.specs.declared.{entries.Entry.Entry, ids.{CpuId.CpuId, Tid.Tid}}
use Rattle.event_log.specs.{Actions.Action, Sections.sections_in}
use Rattle.guest.specs.{declared.instructions.Instruction.Instruction, Calls.IsProgramsCalls}
use Rattle.guest.specs.{Calls.HasEnded, State.State}
use Rattle.layer_traits.specs.Layers.Queues.{buffer_sections, event_of}
use Rattle.layer_traits.specs.Blocks.BufferEffects.{effects_in, opening_locks}
use Rattle.{layer_traits.specs.Threads.Places.home_of, cpu.specs.Cpus.{IsOfHome, of_cpu, of_thread}}
use Rattle.cpu.specs.{Table.Setups.thread_at, Tower.Views.TowerName}
use Rattle.cpu_workers.specs.Working.{Working}

-- the effects of the sections of these actions on buffers of these capacities, which were empty;
-- newest first
abbrev pub effects_of : List ℕ → List (Action TowerName) → List Entry
effects_of caps acts =
    effects_in (opening_locks caps) (buffer_sections (map event_of (sections_in acts)))

-- a trace, oldest first, is the CPU's effects, once each and in order
abbrev pub IsTraceOf : CpuId → List ℕ → List (Action TowerName) → List Entry → Type 0
IsTraceOf c caps acts trace = trace ≡ reverse (of_cpu c (effects_of caps acts))

-- a thread's entries, oldest first, are the calls of its program up to some state, and it has ended
-- only if the program ends there
pub record FollowsProgram (program : List Instruction) (entries : List Entry) (ended : Bool) : Type
    0 where
  pub state : State
  pub calls : IsProgramsCalls program (reverse entries) state
  pub ends : ended ≡ true → HasEnded program state

-- The threads of a worker have followed their programs. The worker's trace has no more entries than
-- its room, and each is of a home thread. Each home thread has a program, whose calls its entries
-- are.
pub record HasFollowed (w : Working) : Type 0 where
  pub room : length w.cpu_local.trace ≤ w.plan.limit
  pub stays : AllByRecursion (IsOfHome w.plan.homes w.cpu) w.cpu_local.trace
  pub homed : (t : Tid) → home_of w.plan.homes t ≡ Some w.cpu
      → (program : List Instruction) × (slice_index_or w.plan.programs t.0 None ≡ Some program)
  pub follows : (t : Tid) (program : List Instruction)
      → slice_index_or w.plan.programs t.0 None ≡ Some program
      → FollowsProgram program (of_thread t.0 w.cpu_local.trace) (thread_at w.cpu_local t).ended
