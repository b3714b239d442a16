use Rattle.std.proofs.Common.{◌≡◌, [], refl, rules, arith}
use Rattle.cpu_workers.proofs.Filling.{filled_all, filled_none, filled_one, has_room}
use Rattle.cpu_workers.proofs.workers.starting.all_turning.Goals as goal

pub loop-worker-init : goal.loop-worker-init
loop-worker-init g c =
    let none : c.in_ok-tasks.tasks.items ≡ [] = first_of (cc, search rules) in
    filled_none c.into_iter-worker-iterator.ensures.into_iter_gives.0 none (omega (arith, c.in_ok-tasks.ensures.capacity, c.len.ensures, c.args.workers.ok.0))

pub push_reserved-requires : goal.push_reserved-requires
push_reserved-requires g c = has_room c.loop-worker.invariant c.in-Some.ensures.steps.0 c.loop-worker.tasks.ok.0

pub loop-worker-preserved : goal.loop-worker-preserved
loop-worker-preserved g c =
    filled_one c.loop-worker.invariant c.in-Some.ensures.steps.0 c.push_reserved.ensures.items c.push_reserved.ensures.capacity (refl, refl, refl)

pub returns : goal.returns
returns g c = filled_all c.loop-worker.invariant c.loop-worker.worker-iterator.rest.ok.0 c.in-None.ensures.steps.0
