use Rattle.{std.proofs.Common.refl, cpu_workers.proofs.Filling.{filled_none, filled_one, filled_with, has_room}}
use Rattle.cpu_workers.proofs.counting.tasks.keys_of.Goals as goal

pub loop-task-init : goal.loop-task-init
loop-task-init g c = filled_none c.into_iter-task-iterator.ensures.into_iter_gives.0 c.requires.empty c.requires.room

pub push_reserved-requires : goal.push_reserved-requires
push_reserved-requires g c = has_room c.loop-task.invariant c.in-Some.ensures.steps.0 c.loop-task.keys.ok.0

pub loop-task-preserved : goal.loop-task-preserved
loop-task-preserved g c = filled_one c.loop-task.invariant c.in-Some.ensures.steps.0 c.push_reserved.ensures.items c.push_reserved.ensures.capacity refl

pub returns : goal.returns
returns g c = filled_with (λ t. t.key) c.loop-task.invariant c.loop-task.task-iterator.rest.ok.0 c.in-None.ensures.steps.0
