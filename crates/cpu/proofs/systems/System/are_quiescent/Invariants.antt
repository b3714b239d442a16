use Rattle.std.proofs.Common.{◌≡◌, ◌<◌, true, ℕ}
use Rattle.cpu.specs.Quiescent.{quiescent_in}
use Rattle.cpu.proofs.systems.System.are_quiescent.Given as goal

abbrev pub invariant-loop-number : goal.invariant-loop-number
invariant-loop-number g l = (k : ℕ) → k < l.number → quiescent_in (record { 0 = k }) l.self ≡ true
