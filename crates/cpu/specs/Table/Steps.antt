-- One step of a CPU, one step of a system, and the states that a system reaches.
use Rattle.std.specs.Prelude.{ℕ, ◌+◌, ◌<◌, zero, suc, Bool, true, false, ◌==◌, List, [], ◌∷◌, ◌++◌}
use Rattle.std.specs.Prelude.{Option, Some, None, slice_get, slice_set}
use Rattle.event_log.specs.{declared.ids.{CpuId.CpuId, LockId.LockId}, Actions.{Action, phase}}
use Rattle.event_log.specs.{Actions.next_action, Sections.{block_after, sections_in}}
use Rattle.layer_traits.specs.declared.steps.{Reason.{Reason, TheVariants.StepsUsed}, Step.Step}
use Rattle.layer_traits.specs.declared.steps.Step.TheVariants.{Stepped, Halted}
use Rattle.layer_traits.specs.Polling.{Plans.{reply, is_in_section}, Along.{Outcome, Along}}
use Rattle.cpu.specs.Table.{Blocks.{Block, Name, Answer}, Edits.table_kernel, Setups.SystemConfig}
use Rattle.cpu.specs.Table.{Setups.{CpuLocal, boot_of, opening}, Choice.{asked, Choice, Halts}}
use Rattle.cpu.specs.Table.Choice.{Alone, Goes, choice, after_section}

-- A CPU's step.

-- the private state after an action: only the action that ends a section has a result
abbrev pub after_reply : SystemConfig → CpuId → CpuLocal → Option Answer → CpuLocal
after_reply setup c p None = p
after_reply setup c p (Some a) = after_section setup c p a

-- the next action of the section at this lock
abbrev pub acting_on : SystemConfig → CpuId → CpuLocal → LockId → Name → List (Action Name)
    → Outcome CpuLocal Name
acting_on setup c p lock name past = record {
  next = after_reply setup c p (reply table_kernel (opening setup) c lock name past);
  acts = next_action c lock name past ∷ [];
  answer = Stepped;
}

abbrev pub acting : SystemConfig → CpuId → CpuLocal → List (Action Name) → Outcome CpuLocal Name
acting setup c p past = acting_on setup c p (asked setup c p).lock (asked setup c p).name past

-- the step that was chosen
abbrev pub chosen_step : SystemConfig → CpuId → CpuLocal → Choice → List (Action Name)
    → Outcome CpuLocal Name
chosen_step setup c p (Halts reason) past = record { next = p; acts = []; answer = Halted reason }
chosen_step setup c p (Alone q) past = record { next = q; acts = []; answer = Stepped }
chosen_step setup c p (Goes q) past = acting setup c q past

-- a section that is under way continues
abbrev pub step_in : SystemConfig → CpuId → CpuLocal → List (Action Name) → Bool
    → Outcome CpuLocal Name
step_in setup c p past true = acting setup c p past
step_in setup c p past false = chosen_step setup c p (choice setup c p) past

-- one step of a CPU, after these actions of all CPUs, newest first
abbrev pub cpu_step : SystemConfig → CpuId → CpuLocal → List (Action Name) → Outcome CpuLocal Name
cpu_step setup c p past = step_in setup c p past (is_in_section (phase c past))

abbrev pub halted_by : Choice → Option Reason
halted_by (Halts reason) = Some reason
halted_by (Alone q) = None
halted_by (Goes q) = None

-- why a CPU without a section under way takes no step, if there is a reason
abbrev pub halted_at : SystemConfig → CpuId → CpuLocal → Option Reason
halted_at setup c p = halted_by (choice setup c p)

-- the block of a lock after these actions
abbrev pub block_at : SystemConfig → LockId → List (Action Name) → Option Block
block_at setup lock log = block_after table_kernel.edited (opening setup) lock (sections_in log)

-- A system's step.

-- a system: the private states of its CPUs, the actions of all of them, newest first, the room for
-- steps, and how many were taken
pub record SystemState : Type 0 where
  pub cpus : List CpuLocal
  pub log : List (Action Name)
  pub room : ℕ
  pub taken : ℕ

abbrev pub cpu_numbered : ℕ → CpuId
cpu_numbered n = record { 0 = n }

-- so many CPUs at boot, numbered from n upwards
abbrev pub boots_from : SystemConfig → ℕ → ℕ → List CpuLocal
boots_from setup n zero = []
boots_from setup n (suc k) = boot_of setup (cpu_numbered n) ∷ boots_from setup (n + 1) k

-- a system at boot
abbrev pub whole_at_boot : SystemConfig → ℕ → SystemState
whole_at_boot setup room =
    record { cpus = boots_from setup 0 setup.cpus; log = []; room = room; taken = 0 }

-- a system after a step of CPU c
abbrev pub whole_after : CpuId → SystemState → Outcome CpuLocal Name → SystemState
whole_after c s o =
    record {
      cpus = slice_set s.cpus c.0 o.next;
      log = o.acts ++ s.log;
      room = s.room;
      taken = s.taken + 1;
    }

-- what a step of a system leaves and returns
pub record Stepping : Type 0 where
  pub next : SystemState
  pub answer : Step

-- a step is taken only if there is room for it
abbrev pub roomy : CpuId → SystemState → Outcome CpuLocal Name → Bool → Stepping
roomy c s o true = record { next = s; answer = Halted StepsUsed }
roomy c s o false = record { next = whole_after c s o; answer = Stepped }

-- a halted CPU changes nothing
abbrev pub answered_by : CpuId → SystemState → Outcome CpuLocal Name → Step → Stepping
answered_by c s o (Halted reason) = record { next = s; answer = Halted reason }
answered_by c s o Stepped = roomy c s o (s.taken == s.room)

abbrev pub stepping : CpuId → SystemState → Outcome CpuLocal Name → Stepping
stepping c s o = answered_by c s o o.answer

abbrev pub step_at : SystemConfig → CpuId → SystemState → Option CpuLocal → Stepping
step_at setup c s None = record { next = s; answer = Stepped }
step_at setup c s (Some p) = stepping c s (cpu_step setup c p s.log)

-- one step of CPU c in a system
abbrev pub system_step : SystemConfig → CpuId → SystemState → Stepping
system_step setup c s = step_at setup c s (slice_get s.cpus c.0)

-- so many steps of CPU c, one after the other
abbrev pub steps_by : SystemConfig → CpuId → ℕ → SystemState → SystemState
steps_by setup c zero s = s
steps_by setup c (suc n) s = steps_by setup c n (system_step setup c s).next

-- the states that a system reaches from boot, under every schedule
pub data IsReached (setup : SystemConfig) (room : ℕ) : SystemState → Type 0 where
  boots : IsReached setup room (whole_at_boot setup room)
  steps_once : {s : SystemState} (c : CpuId) → IsReached setup room s → c.0 < setup.cpus
      → IsReached setup room (system_step setup c s).next

-- the steps of CPU c along a list of actions, according to the table
abbrev pub AlongTable : SystemConfig → CpuId → ℕ → CpuLocal → List (Action Name) → Type 0
AlongTable setup c n p log = Along (cpu_step setup c) c (boot_of setup c) n p log
