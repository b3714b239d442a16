use Rattle.std.proofs.Common.{◌≡◌}
use Rattle.cpu.specs.{Claims.listed, Systems.halted_in}
use Rattle.mctower.proofs.run.system_states.halted_of.Given as goal

abbrev pub invariant-loop-cpu : goal.invariant-loop-cpu
invariant-loop-cpu g l = l.halted.items ≡ listed (λ c. halted_in (record { 0 = c }) l.system) 0 l.cpu
