use Rattle.{std.proofs.Common.refl, cpu_workers.proofs.Filling.{both_are, filled_all, filled_none, filled_one, has_room}}
use Rattle.cpu_workers.proofs.natives.run.parted.Goals as goal

pub loop-one-init : goal.loop-one-init
loop-one-init g c =
    let gives = c.into_iter-one-iterator.ensures.into_iter_gives.0 in
    record {
      keys = filled_none gives c.requires.keys.0 c.requires.keys.1;
      natives = filled_none gives c.requires.natives.0 c.requires.natives.1;
    }

pub push_reserved-requires : goal.push_reserved-requires
push_reserved-requires g c = has_room c.loop-one.invariant.keys c.in-Some.ensures.steps.0 c.loop-one.keys.ok.0

pub push_reserved-requires-in-loop-one : goal.push_reserved-requires-in-loop-one
push_reserved-requires-in-loop-one g c = has_room c.loop-one.invariant.natives c.in-Some.ensures.steps.0 c.loop-one.natives.ok.0

pub loop-one-preserved : goal.loop-one-preserved
loop-one-preserved g c =
    let known = c.loop-one.invariant in
    let next = c.in-Some.ensures.steps.0 in
    record {
      keys = filled_one known.keys next c.push_reserved.ensures.items c.push_reserved.ensures.capacity c.back-key.ensures;
      natives = filled_one known.natives next c.push_reserved-in-loop-one.ensures.items c.push_reserved-in-loop-one.ensures.capacity refl;
    }

pub returns-clause-keys : goal.returns-clause-keys
returns-clause-keys g c =
    both_are (λ x. x.machine) c.args.left.items c.loop-one.keys.items
    (filled_all c.loop-one.invariant.keys c.loop-one.one-iterator.rest.ok.0 c.in-None.ensures.steps.0)

pub returns-clause-natives : goal.returns-clause-natives
returns-clause-natives g c =
    both_are (λ x. x.native) c.args.left.items c.loop-one.natives.items
    (filled_all c.loop-one.invariant.natives c.loop-one.one-iterator.rest.ok.0 c.in-None.ensures.steps.0)
