-- A worker: one CPU with its machine, and one turn of it.
use Rattle.std.specs.Prelude.{◌≡◌, ℕ, ◌+◌, Bool, List, Option, Some, None, slice_index_or}
use Rattle.event_log.specs.{declared.ids.{CpuId.CpuId, Tid.Tid}, Actions.{Action, phase}}
use Rattle.guest.specs.declared.instructions.Instruction.{Instruction}
use Rattle.layer_traits.specs.declared.steps.Step.{Step, TheVariants.Stepped}
use Rattle.layer_traits.specs.Polling.{Along.IsStep, Plans.is_in_section}
use Rattle.cpu.specs.Table.{Blocks.Name, Setups.{SystemConfig, CpuLocal, program_of}}
use Rattle.cpu.specs.{Table.Steps.{cpu_step, halted_at}, Tower.Composed.{busy_step_answer, named}}
use Rattle.cpu.specs.Tower.Views.{TowerName}

-- what no turn changes: the home of each thread, the capacity of each buffer, the programs of the
-- home threads, and the trace's room
pub record Charge : Type 0 where
  pub homes : List CpuId
  pub caps : List ℕ
  pub programs : List (Option (List Instruction))
  pub limit : ℕ

-- A worker as its callers see it: its CPU, its plan, and the CPU's private state in the step table.
-- Further it has the actions that the CPU has seen, newest first, and which machine it is.
pub record Working : Type 0 where
  pub cpu : CpuId
  pub plan : Charge
  pub cpu_local : CpuLocal
  pub acts : List (Action TowerName)
  pub machine_id : List ℕ

-- the actions that the CPU has seen, by the names of the step table
abbrev pub log : Working → List (Action Name)
log w = named w.acts

-- whether a section of the CPU is under way
abbrev pub is_inside : Working → Bool
is_inside w = is_in_section (phase w.cpu (log w))

-- the step table is that of this plan: it may contain more programs, those of other CPUs' home
-- threads
pub record IsPlanned (setup : SystemConfig) (plan : Charge) : Type 0 where
  pub homes_are : setup.homes ≡ plan.homes
  pub caps_are : setup.caps ≡ plan.caps
  pub room_is : setup.trace_room ≡ plan.limit
  pub programs_are : (t : Tid) (program : List Instruction)
      → slice_index_or plan.programs t.0 None ≡ Some program → program_of setup t ≡ program

-- what a worker keeps over its turns
pub record IsSame (old new : Working) : Type 0 where
  pub cpu : new.cpu ≡ old.cpu
  pub plan : new.plan ≡ old.plan
  pub machine_id : new.machine_id ≡ old.machine_id

-- a turn: other CPUs acted, and then this CPU took a step of the table with this result
abbrev pub Turned : Working → Working → Step → Type 0
Turned old new answer = (setup : SystemConfig) → IsPlanned setup old.plan
    → IsStep (λ c. c ≡ old.cpu) (cpu_step setup old.cpu) old.cpu_local new.cpu_local (log old)
    (log new)
    answer

-- so many turns, one after the other, each with a step of the table
pub data TookTurns (old : Working) : ℕ → Working → Type 0 where
  no_turns : TookTurns old 0 old
  one_more : {k : ℕ} {now new : Working} → TookTurns old k now → IsSame now new
      → Turned now new Stepped → TookTurns old (k + 1) new

-- The step table takes a step of the worker's CPU, whatever other CPUs do before it. A section of
-- it is under way, or it is not halted.
abbrev pub MayStep : SystemConfig → Working → Type 0
MayStep setup w = busy_step_answer (is_inside w) (halted_at setup w.cpu w.cpu_local) ≡ Stepped
