-- When a worker yields its processor: how many polls are left to it, and whether its CPU is idle.
use Rattle.std.specs.Prelude.{ℕ, ◌==◌, ◌-◌, Bool, true, false, List, [], Option, None}
use Rattle.std.specs.Prelude.{if◌then◌else◌}
use Rattle.event_log.specs.declared.ids.Tid.{Tid}
use Rattle.cpu_workers.specs.declared.pauses.TheConstants.{SPINS}

-- How many polls are left after a turn. In a section it is one less, or one if none was left.
-- Outside of sections it is all of them.
abbrev pub spins_left : Bool → ℕ → ℕ
spins_left true left = if left == 0 then 1 else left - 1
spins_left false left = SPINS

-- no thread runs on a CPU, is in its hand or is ready there
abbrev pub is_idle : Option Tid → Option Tid → List Tid → Bool
is_idle None None [] = true
is_idle current hand ready = false
