use Rattle.std.proofs.Common.{◌≡◌, vec_capacity}
use Rattle.cpu_workers.proofs.Filling.{Filling}
use Rattle.cpu_workers.proofs.workers.starting.all_turning.Given as goal

abbrev pub invariant-loop-worker : goal.invariant-loop-worker
invariant-loop-worker g l = Filling (λ w t. (t.worker ≡ w) × (t.gate.now ≡ l.fn.gate) × (t.turns ≡ l.fn.turns)) l.fn.workers.items l.yielded
    l.worker-iterator.rest.items l.tasks.items (vec_capacity l.tasks)
