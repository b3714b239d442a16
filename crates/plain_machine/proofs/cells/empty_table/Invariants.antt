use Rattle.std.proofs.Common.{◌≡◌, ◌≤◌, length, vec_capacity}
use Rattle.plain_machine.proofs.cells.empty_table.Given as goal

abbrev pub invariant-loop : goal.invariant-loop
invariant-loop g l = record {
  filled : length l.cells.items ≡ l.counter;
  reserved : l.len ≤ vec_capacity l.cells;
}
