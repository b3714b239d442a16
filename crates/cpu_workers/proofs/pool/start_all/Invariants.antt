use Rattle.{std.proofs.Common.{All, IsNone, IsOk, vec_capacity}, cpu_workers.{specs.Tasks.task_of, proofs.Joining.Made}}
use Rattle.cpu_workers.proofs.pool.start_all.Given as goal

abbrev pub invariant-loop-task : goal.invariant-loop-task
invariant-loop-task g l = record {
  made : Made (task_of (λ s. s.child.promise.task.value)) g.T.Task.MayRun l.fn.tasks.items l.yielded l.task-iterator.rest.items l.starts.items
      (vec_capacity l.starts);
  started : IsNone l.refused → All IsOk l.starts.items;
}
