use Rattle.std.proofs.Common.{◌-◌, length}
use Rattle.layer_traits.specs.Polling.Spins.{BeginWith}
use Rattle.layer_traits.proofs.steps.runs_of.Given as goal

abbrev pub invariant-loop-local : goal.invariant-loop-local
invariant-loop-local l = BeginWith l.cpu l.local l.steps

abbrev pub decreases-loop-local : goal.decreases-loop-local
decreases-loop-local l = length l.steps - l.local
