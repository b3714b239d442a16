use Rattle.std.proofs.Common.{◌≡◌, ◌≤◌, length, take, vec_capacity}
use Rattle.cpu.specs.Boots.{guests_for}
use Rattle.cpu.proofs.systems.plans.guests_of.Given as goal

abbrev pub invariant-loop-t : goal.invariant-loop-t
invariant-loop-t l = (l.guests.items ≡ take l.t (guests_for l.boot l.number.0)) × (length l.boot.tasks ≤ vec_capacity l.guests)
