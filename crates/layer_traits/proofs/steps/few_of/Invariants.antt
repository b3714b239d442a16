use Rattle.std.proofs.Common.{◌≡◌, replicate, take}
use Rattle.layer_traits.proofs.steps.few_of.Given as goal

abbrev pub invariant-loop-step : goal.invariant-loop-step
invariant-loop-step l = (l.local ≡ l.step-index) × (take l.step-index l.steps ≡ replicate l.step-index l.cpu)
