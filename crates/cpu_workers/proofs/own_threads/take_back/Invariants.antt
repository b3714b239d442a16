use Rattle.std.proofs.Common.{◌≡◌, vec_capacity}
use Rattle.cpu_workers.{specs.Tasks.task_of, proofs.Filling.Filling}
use Rattle.cpu_workers.proofs.own_threads.take_back.Given as goal

abbrev pub invariant-loop-start : goal.invariant-loop-start
invariant-loop-start g l = Filling (λ start task. task ≡ task_of (λ s. s.child.promise.task.value) start) l.fn.starts.items l.yielded
    l.start-iterator.rest.items l.back.items (vec_capacity l.back)
