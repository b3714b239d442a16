-- Threads and schedules (simulation): what CPUs do along one list of actions is a run of the
-- table's system.
use Rattle.std.specs.{Prelude.{◌≡◌, ℕ, ◌<◌, ◌≤◌, List, length, Some, slice_get}, List.All}
use Rattle.{event_log.specs.{declared.ids.CpuId.CpuId, Actions.Action}, cpu.specs.Sound.after_steps}
use Rattle.cpu.specs.{Wakeups.Lost.IsWorked, Table.{Blocks.Name, Setups.SystemConfig}}
use Rattle.cpu.specs.Table.Steps.{whole_at_boot}

-- Under some schedule the table's system, with room for it, leaves exactly this list, and each CPU
-- in the private state that it reached along the list.
pub record IsRunOfTable (setup : SystemConfig) (log : List (Action Name))
    (worked : IsWorked setup log) : Type 0 where
  pub steps : List CpuId
  pub known : All (λ c. c.0 < setup.cpus) steps
  pub log_is : (room : ℕ) → length steps ≤ room
      → (after_steps setup steps (whole_at_boot setup room)).log ≡ log
  pub taken_is : (room : ℕ) → length steps ≤ room
      → (after_steps setup steps (whole_at_boot setup room)).taken ≡ length steps
  pub many : (room : ℕ) → length steps ≤ room
      → length (after_steps setup steps (whole_at_boot setup room)).cpus ≡ setup.cpus
  pub cpus_are : (room : ℕ) → length steps ≤ room → (c : CpuId) → c.0 < setup.cpus
      → (below : c.0 < setup.cpus)
      × (slice_get (after_steps setup steps (whole_at_boot setup room)).cpus c.0
      ≡ Some (worked.ran c below).last)

-- therefore all such work is a run
abbrev pub WorkIsARun : Type 0
WorkIsARun =
    (setup : SystemConfig) (log : List (Action Name)) (worked : IsWorked setup log)
    → IsRunOfTable setup log worked
