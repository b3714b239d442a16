use Rattle.cpu_workers.proofs.Filling.{filled_all, filled_none, filled_one, has_room}
use Rattle.cpu_workers.proofs.natives.seating.all_left.Goals as goal

pub loop-one-init : goal.loop-one-init
loop-one-init g c = filled_none c.into_iter-one-iterator.ensures.into_iter_gives.0 c.requires.empty c.requires.room

pub push_reserved-requires : goal.push_reserved-requires
push_reserved-requires g c = has_room c.loop-one.invariant c.in-Some.ensures.steps.0 c.loop-one.left.ok.0

pub loop-one-preserved : goal.loop-one-preserved
loop-one-preserved g c =
    let e = c.left_by-alone.ensures in
    filled_one c.loop-one.invariant c.in-Some.ensures.steps.0 c.push_reserved.ensures.items c.push_reserved.ensures.capacity (e.machine, e.owns, e.native)

pub returns : goal.returns
returns g c = filled_all c.loop-one.invariant c.loop-one.one-iterator.rest.ok.0 c.in-None.ensures.steps.0
