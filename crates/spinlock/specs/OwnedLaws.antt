-- Which locks are held.
use Rattle.std.specs.Prelude.{◌≡◌, List}
use Rattle.event_log.specs.{declared.ids.{CpuId.CpuId, LockId.LockId}, Actions.{Action, Holds}}
use Rattle.event_log.specs.Actions.{phase}

-- some CPU holds this lock
abbrev pub SomeoneHolds : {N : Type 0} → LockId → List (Action N) → Type 0
SomeoneHolds lock acts = (cpu : CpuId) × (phase cpu acts ≡ Holds lock)
