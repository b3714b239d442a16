use Rattle.std.proofs.Common.{◌≡◌, vec_capacity}
use Rattle.cpu_workers.proofs.Filling.{Filling}
use Rattle.cpu_workers.proofs.counting.tasks.keys_of.Given as goal

abbrev pub invariant-loop-task : goal.invariant-loop-task
invariant-loop-task g l = Filling (λ t key. key ≡ t.key) l.fn.tasks.items l.yielded l.task-iterator.rest.items l.keys.items (vec_capacity l.keys)
