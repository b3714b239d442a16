use Rattle.cpu_workers.{specs.Tasks.task_of, proofs.Filling.{filled_none, filled_one, filled_with, has_room}}
use Rattle.cpu_workers.proofs.own_threads.take_back.Goals as goal

pub loop-start-init : goal.loop-start-init
loop-start-init g c = filled_none c.into_iter-start-iterator.ensures.into_iter_gives.0 c.requires.empty c.requires.room

pub push_reserved-requires : goal.push_reserved-requires
push_reserved-requires g c = has_room c.loop-start.invariant c.in-Some.ensures.steps.0 c.loop-start.back.ok.0

pub loop-start-preserved : goal.loop-start-preserved
loop-start-preserved g c =
    filled_one c.loop-start.invariant c.in-Some.ensures.steps.0 c.push_reserved.ensures.items c.push_reserved.ensures.capacity c.back_from-one.ensures

pub returns : goal.returns
returns g c =
    filled_with (task_of (λ s. s.child.promise.task.value)) c.loop-start.invariant c.loop-start.start-iterator.rest.ok.0 c.in-None.ensures.steps.0
