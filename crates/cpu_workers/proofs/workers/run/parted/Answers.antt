use Rattle.{std.proofs.Common.refl, cpu_workers.proofs.Filling.{both_maps, filled_all, filled_none, filled_one, filled_with, has_room}}
use Rattle.cpu_workers.proofs.workers.run.parted.Goals as goal

pub loop-one-init : goal.loop-one-init
loop-one-init g c =
    let gives = c.into_iter-one-iterator.ensures.into_iter_gives.0 in
    record {
      keys = filled_none gives c.requires.keys.0 c.requires.keys.1;
      traces = filled_none gives c.requires.traces.0 c.requires.traces.1;
      stops = filled_none gives c.requires.stops.0 c.requires.stops.1;
      taken = filled_none gives c.requires.taken.0 c.requires.taken.1;
    }

pub push_reserved-requires : goal.push_reserved-requires
push_reserved-requires g c = has_room c.loop-one.invariant.keys c.in-Some.ensures.steps.0 c.loop-one.keys.ok.0

pub push_reserved-requires-in-loop-one : goal.push_reserved-requires-in-loop-one
push_reserved-requires-in-loop-one g c = has_room c.loop-one.invariant.traces c.in-Some.ensures.steps.0 c.loop-one.traces.ok.0

pub push_reserved-requires-in-loop-one-2 : goal.push_reserved-requires-in-loop-one-2
push_reserved-requires-in-loop-one-2 g c = has_room c.loop-one.invariant.stops c.in-Some.ensures.steps.0 c.loop-one.stops.ok.0

pub push_reserved-requires-in-loop-one-3 : goal.push_reserved-requires-in-loop-one-3
push_reserved-requires-in-loop-one-3 g c = has_room c.loop-one.invariant.taken c.in-Some.ensures.steps.0 c.loop-one.taken.ok.0

pub loop-one-preserved : goal.loop-one-preserved
loop-one-preserved g c =
    let known = c.loop-one.invariant in
    let next = c.in-Some.ensures.steps.0 in
    record {
      keys = filled_one known.keys next c.push_reserved.ensures.items c.push_reserved.ensures.capacity c.back-key.ensures;
      traces = filled_one known.traces next c.push_reserved-in-loop-one.ensures.items c.push_reserved-in-loop-one.ensures.capacity refl;
      stops = filled_one known.stops next c.push_reserved-in-loop-one-2.ensures.items c.push_reserved-in-loop-one-2.ensures.capacity refl;
      taken = filled_one known.taken next c.push_reserved-in-loop-one-3.ensures.items c.push_reserved-in-loop-one-3.ensures.capacity refl;
    }

pub returns-clause-keys : goal.returns-clause-keys
returns-clause-keys g c = filled_with (λ x. x.machine) c.loop-one.invariant.keys c.loop-one.one-iterator.rest.ok.0 c.in-None.ensures.steps.0

pub returns-clause-traces : goal.returns-clause-traces
returns-clause-traces g c =
    both_maps (λ t. t.items) (λ x. x.trace.items) c.args.left.items c.loop-one.traces.items
    (filled_all c.loop-one.invariant.traces c.loop-one.one-iterator.rest.ok.0 c.in-None.ensures.steps.0)

pub returns-clause-stops : goal.returns-clause-stops
returns-clause-stops g c = filled_with (λ x. x.did.stop) c.loop-one.invariant.stops c.loop-one.one-iterator.rest.ok.0 c.in-None.ensures.steps.0

pub returns-clause-taken : goal.returns-clause-taken
returns-clause-taken g c = filled_with (λ x. x.did.taken) c.loop-one.invariant.taken c.loop-one.one-iterator.rest.ok.0 c.in-None.ensures.steps.0
