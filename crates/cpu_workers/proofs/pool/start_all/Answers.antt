use Rattle.{std.proofs.Common.{IsOk, refl}, cpu_workers.proofs.Joining.{all_more, made_one}}
use Rattle.cpu_workers.proofs.pool.start_all.Goals as goal

pub loop-task-preserved-then-is_some : goal.loop-task-preserved-then-is_some
loop-task-preserved-then-is_some g c = record {
  made = made_one c.loop-task.invariant.made c.in-Some.ensures.steps.0 c.push_reserved.ensures.items refl c.push_reserved.ensures.capacity;
  started = λ none. absurd cc;
}

pub loop-task-preserved-in-Ok : goal.loop-task-preserved-in-Ok
loop-task-preserved-in-Ok g c = record {
  made = made_one c.loop-task.invariant.made c.in-Some.ensures.steps.0 c.push_reserved-in-Ok.ensures.items c.in-Ok.ensures.started
      c.push_reserved-in-Ok.ensures.capacity;
  started = λ none. all_more IsOk c.loop-task.starts.items c.push_reserved-in-Ok.new.self.items _ c.push_reserved-in-Ok.ensures.items
      (c.loop-task.invariant.started none) refl;
}

pub loop-task-preserved : goal.loop-task-preserved
loop-task-preserved g c = record {
  made = made_one c.loop-task.invariant.made c.in-Some.ensures.steps.0 c.push_reserved-in-Err.ensures.items c.in-Err.ensures.back
      c.push_reserved-in-Err.ensures.capacity;
  started = λ none. absurd cc;
}
