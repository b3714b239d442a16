use Rattle.std.proofs.Common.{◌≡◌, length}
use Rattle.cpu_workers.proofs.pool.group_of.Given as goal

abbrev pub invariant-loop : goal.invariant-loop
invariant-loop l = length l.group.items ≡ l.counter
