-- The system of a plan, and what its steps leave as the plan has it.
use Rattle.std.specs.Prelude.{◌≡◌, ℕ, List, length, map, replicate}
use Rattle.event_log.specs.declared.ids.CpuId.{CpuId}
use Rattle.boot.specs.{declared.refusals.BootError.BootError, Plan.{BootPlan, IsPlan}}
use Rattle.{tracer.specs.declared.gathering.GatherError.GatherError, cpu.specs.Boots.homes_for}
use Rattle.cpu.specs.{Boots.tables_for, Cpus.programs_of, Claims.{SystemView, programs_in}}
use Rattle.cpu.specs.{Sound.{after_steps, setup_for}, Table.Steps.{SystemState, whole_at_boot}}
use Rattle.mctower.specs.declared.run.run_faults.Fault.{Fault, TheVariants.{NoMemory, Boot}}
use Rattle.mctower.specs.declared.run.run_faults.Fault.TheVariants.{NoOrder}
use Rattle.boot.specs.declared.refusals.BootError.TheVariants as refused
use Rattle.tracer.specs.declared.gathering.GatherError.TheVariants as gathering

-- the system has the CPUs, the threads with their programs, the buffers and the room of each trace
-- that the plan says
pub record IsSystemOf (plan : BootPlan) (s : SystemView) : Type 0 where
  pub caps : s.caps ≡ plan.caps
  pub homes : s.homes ≡ homes_for plan
  pub programs : programs_in s ≡ map programs_of (tables_for plan)
  pub cpus : length s.cpus ≡ plan.cpus
  pub limits : map (λ p. p.limit) s.cpus ≡ replicate plan.cpus plan.trace

-- the step table's system of a plan after these steps, one after the other from boot, with room for
-- exactly these
abbrev pub table_run : BootPlan → List CpuId → SystemState
table_run plan steps =
    after_steps (setup_for plan) steps (whole_at_boot (setup_for plan) (length steps))

-- The system is the plan's before its first step, with room for so many steps. Each home CPU has
-- its threads' guests, all at their start.
pub record IsOpened (plan : BootPlan) (room : ℕ) (s : SystemView) : Type 0 where
  pub system : IsSystemOf plan s
  pub guests : map (λ p. p.guests) s.cpus ≡ tables_for plan
  pub room_is : s.room ≡ room
  pub taken : s.taken ≡ 0

-- the system is that of a plan with so many CPUs and threads and these capacities
pub record IsOfPlan (count : ℕ) (capacities : List ℕ) (s : SystemView) : Type 0 where
  pub plan : BootPlan
  pub within : IsPlan plan
  pub cpus : count ≡ plan.cpus
  pub caps : capacities ≡ plan.caps
  pub system : IsSystemOf plan s

-- the error of a rejected plan as the fault of a run
abbrev pub from_boot : BootError → Fault
from_boot (refused.NoMemory evidence) = NoMemory evidence
from_boot refused.BadToml = Boot refused.BadToml
from_boot (refused.MissingKey key) = Boot (refused.MissingKey key)
from_boot (refused.OutOfRange key) = Boot (refused.OutOfRange key)
from_boot (refused.Guest t line fault) = Boot (refused.Guest t line fault)

-- a failure to gather as the fault of a run
abbrev pub from_gather : GatherError → Fault
from_gather (gathering.NoMemory evidence) = NoMemory evidence
from_gather gathering.NoOrder = NoOrder
