use Rattle.std.proofs.Common.{◌≡◌, vec_capacity}
use Rattle.cpu_workers.proofs.Filling.{Filling}
use Rattle.cpu_workers.proofs.counting.tasks.all_counting.Given as goal

abbrev pub invariant-loop-key : goal.invariant-loop-key
invariant-loop-key g l = Filling (λ key t. (t.key ≡ key) × (t.shared.now ≡ l.fn.shared) × (t.times ≡ l.fn.times)) l.fn.keys.items l.yielded
    l.key-iterator.rest.items l.tasks.items (vec_capacity l.tasks)
