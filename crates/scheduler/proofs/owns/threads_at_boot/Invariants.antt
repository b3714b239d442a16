use Rattle.std.proofs.Common.{◌≡◌, take}
use Rattle.layer_traits.specs.Threads.Places.{homed}
use Rattle.scheduler.proofs.owns.threads_at_boot.Given as goal

abbrev pub invariant-loop-i : goal.invariant-loop-i
invariant-loop-i l = l.ready ≡ homed l.cpu 0 (take l.i l.homes)
