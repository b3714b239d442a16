use Rattle.std.proofs.Common.{◌≡◌, ◌+◌, ◌≤◌, vec_len, vec_capacity}
use Rattle.shared_queue.specs.Opening.{AreEmptyQueues}
use Rattle.shared_queue.proofs.opening.empty_queues.Given as goal

abbrev pub invariant-loop-cpu : goal.invariant-loop-cpu
invariant-loop-cpu g l = AreEmptyQueues l.homes 0 l.locks.items × (vec_len l.locks ≡ l.cpu) × (l.cpus + l.more ≤ vec_capacity l.locks)
