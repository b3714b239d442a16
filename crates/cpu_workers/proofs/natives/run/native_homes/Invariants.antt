use Rattle.std.proofs.Common.{◌≡◌}
use Rattle.cpu_workers.specs.Natives.{own_homes}
use Rattle.cpu_workers.proofs.natives.run.native_homes.Given as goal

abbrev pub invariant-loop-number : goal.invariant-loop-number
invariant-loop-number l = l.homes.items ≡ own_homes l.number
