use Rattle.{std.proofs.Common.refl, cpu_workers.proofs.Filling.{filled_all, filled_none, filled_one, has_room}}
use Rattle.cpu_workers.proofs.counting.tasks.all_counting.Goals as goal

pub loop-key-init : goal.loop-key-init
loop-key-init g c = filled_none c.into_iter-key-iterator.ensures.into_iter_gives.0 c.requires.empty c.requires.room

pub push_reserved-requires : goal.push_reserved-requires
push_reserved-requires g c = has_room c.loop-key.invariant c.in-Some.ensures.steps.0 c.loop-key.tasks.ok.0

pub loop-key-preserved : goal.loop-key-preserved
loop-key-preserved g c =
    filled_one c.loop-key.invariant c.in-Some.ensures.steps.0 c.push_reserved.ensures.items c.push_reserved.ensures.capacity (refl, refl, refl)

pub returns : goal.returns
returns g c = filled_all c.loop-key.invariant c.loop-key.key-iterator.rest.ok.0 c.in-None.ensures.steps.0
