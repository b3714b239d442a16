use Rattle.std.proofs.Common.{◌≤◌, ◌-◌, length, take}
use Rattle.cpu.proofs.StepTable.Schedules.{Leads}
use Rattle.cpu.proofs.systems.System.run.Given as goal

abbrev pub invariant-loop-at : goal.invariant-loop-at
invariant-loop-at g l = record { within : l.at ≤ length l.steps; leads : Leads g.I.CallLayer.IsStepwise l.fn.self (take l.at l.steps) l.self }

abbrev pub decreases-loop-at : goal.decreases-loop-at
decreases-loop-at g l = length l.steps - l.at
