use Rattle.{std.proofs.Common.{All, IsOk, vec_capacity}, cpu_workers.{specs.Tasks.task_of, proofs.Filling.Filling}}
use Rattle.cpu_workers.proofs.own_threads.join_all.Given as goal

abbrev pub invariant-loop-start : goal.invariant-loop-start
invariant-loop-start g l = record {
  started : All IsOk l.start-iterator.rest.items;
  done : Filling (λ start one. g.T.Task.HasDone (task_of (λ s. s.child.promise.task.value) start) one) l.fn.starts.items l.yielded
      l.start-iterator.rest.items l.done.items (vec_capacity l.done);
}
