use Rattle.std.proofs.Common.{◌≡◌, take}
use Rattle.cpu.specs.Boots.{homes_for}
use Rattle.cpu.proofs.systems.plans.homes_of.Given as goal

abbrev pub invariant-loop-t : goal.invariant-loop-t
invariant-loop-t l = l.homes.items ≡ take l.t (homes_for l.boot)
