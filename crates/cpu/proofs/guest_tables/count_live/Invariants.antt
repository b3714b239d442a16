use Rattle.std.proofs.Common.{◌≡◌, count_by, not, take}
use Rattle.cpu.specs.Cpus.{is_over}
use Rattle.cpu.proofs.guest_tables.count_live.Given as goal

abbrev pub invariant-loop-guest : goal.invariant-loop-guest
invariant-loop-guest l = l.count ≡ count_by (λ x. not (is_over x)) (take l.guest-index l.guests)
