use Rattle.std.proofs.Common.{◌≡◌, count_by, take}
use Rattle.cpu.specs.Cpus.{is_begun_guest}
use Rattle.cpu.proofs.guest_tables.count_begun.Given as goal

abbrev pub invariant-loop-guest : goal.invariant-loop-guest
invariant-loop-guest l = l.count ≡ count_by is_begun_guest (take l.guest-index l.guests)
