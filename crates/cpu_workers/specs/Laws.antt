-- The theorems on workers that run at one table.
use Rattle.std.specs.Prelude.{◌≡◌, ℕ, ◌≤◌, ◌<◌, Bool, true, List, [], ◌∷◌, ◌++◌, reverse, None}
use Rattle.event_log.specs.{declared.{entries.Entry.Entry, ids.CpuId.CpuId}, History.AreOthers}
use Rattle.event_log.specs.{History.own_events, Actions.{Action, cpu_of_action}}
use Rattle.cpu.specs.Table.{Blocks.Name, Setups.{SystemConfig, CpuLocal, boot_of, have_ended}}
use Rattle.cpu.specs.Table.{Setups.home_threads, Steps.{cpu_step, halted_at}}
use Rattle.cpu.specs.{Wakeups.Lost.LosesNoWakeUp, Cpus.of_cpu, Linear.OrderGrows}
use Rattle.{cpu.specs.Tower.Views.TowerName, cpu_workers.specs.declared.workers.stops.Stop.Stop}
use Rattle.cpu_workers.specs.declared.workers.stops.Stop.TheVariants.{AllEnded, TurnsUsed, Held}
use Rattle.cpu_workers.specs.{Orders.effects_of, Reports.{IsTrueStop, Walked}}

-- a worker's CPU has run from boot by the step table along what it has seen, and the list continues
-- with other CPUs' actions
pub record HasWorked (setup : SystemConfig) (c : CpuId) (log : List (Action Name)) : Type 0 where
  pub last : CpuLocal
  pub history : List (Action Name)
  pub shown : ℕ
  pub took : Walked (cpu_step setup c) c (boot_of setup c) last history shown
  pub more : List (Action Name)
  pub is : log ≡ more ++ history
  pub others : AreOthers cpu_of_action c more

-- the workers of one table, whose list has no other CPU's actions
pub record HaveWorked (setup : SystemConfig) (log : List (Action Name)) : Type 0 where
  pub each : (c : CpuId) → c.0 < setup.cpus → HasWorked setup c log
  pub rest : (c : CpuId) → setup.cpus ≤ c.0 → own_events cpu_of_action c log ≡ []

-- such workers lose no wake-up
abbrev pub WorkersLoseNoWakeUp : Type 0
WorkersLoseNoWakeUp =
    (setup : SystemConfig) (log : List (Action Name)) → HaveWorked setup log
    → LosesNoWakeUp setup log

-- each action appends at most one call to the order of the calls, which is of the action's CPU
abbrev pub ActionsExtendOrder : Type 0
ActionsExtendOrder = (caps : List ℕ) (a : Action TowerName) (past : List (Action TowerName))
    → OrderGrows (cpu_of_action a) (reverse (effects_of caps past))
    (reverse (effects_of caps (a ∷ past)))

-- the order of the calls at a longer prefix of a list of actions is the order at the shorter one,
-- followed by further calls. None of these is of a CPU that did not act in between. A call that
-- took effect within the shorter prefix is before each that took effect later.
pub record OrderGoesOn (caps : List ℕ) (later earlier : List (Action TowerName)) : Type 0 where
  pub more : List Entry
  pub is : reverse (effects_of caps (later ++ earlier)) ≡ reverse (effects_of caps earlier) ++ more
  pub local : (c : CpuId) → AreOthers cpu_of_action c later → of_cpu c more ≡ []

-- this holds of any two prefixes, one of which extends the other
abbrev pub PrefixesKeepOrder : Type 0
PrefixesKeepOrder =
    (caps : List ℕ) (later earlier : List (Action TowerName)) → OrderGoesOn caps later earlier

-- what a true stop states of the CPU: all its threads have ended, or it is not halted
pub record SaysTrue (setup : SystemConfig) (c : CpuId) (last : CpuLocal) (turns taken : ℕ)
    (stop : Stop) : Type 0 where
  pub ended : stop ≡ AllEnded → have_ended last (home_threads setup c) ≡ true
  pub used : stop ≡ TurnsUsed → (halted_at setup c last ≡ None) × (turns ≤ taken)
  pub held : stop ≡ Held → halted_at setup c last ≡ None

-- whether or not the gate returned `Limit`
abbrev pub StopReasonsHold : Type 0
StopReasonsHold =
    (setup : SystemConfig) (c : CpuId) (last : CpuLocal) (held : Bool) (turns taken : ℕ)
    (stop : Stop)
    → IsTrueStop (halted_at setup c last) (λ turn. held ≡ true) turns taken stop
    → SaysTrue setup c last turns taken stop
