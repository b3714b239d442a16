use Rattle.std.proofs.Common.{◌≡◌, ◌≤◌, length, map, vec_capacity}
use Rattle.cpu.specs.{Boots.guests_for, Claims.listed}
use Rattle.cpu.proofs.systems.plans.tables_of.Given as goal

abbrev pub invariant-loop-number : goal.invariant-loop-number
invariant-loop-number l = record {
  are : map (λ table. table.items) l.tables.items ≡ listed (guests_for l.boot) 0 l.number;
  so_many : length l.tables.items ≡ l.number;
  has_room : l.boot.cpus ≤ vec_capacity l.tables;
}
