use Rattle.std.proofs.Common.{◌≡◌, replicate, take, IsTrue}
use Rattle.layer_traits.proofs.steps.all_of.Given as goal

abbrev pub invariant-loop-step : goal.invariant-loop-step
invariant-loop-step l = IsTrue l.all → take l.step-index l.steps ≡ replicate l.step-index l.cpu
