use Rattle.std.proofs.Common.{◌≡◌, ◌≤◌, [], replicate, vec_capacity}
use Rattle.plain_layers.proofs.kernel.empty_queues.Given as goal

abbrev pub invariant-loop : goal.invariant-loop
invariant-loop l = record {
  filled : l.queues.items ≡ replicate l.counter [];
  reserved : l.cpus ≤ vec_capacity l.queues;
}
