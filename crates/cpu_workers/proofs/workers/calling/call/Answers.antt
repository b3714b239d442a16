use Rattle.std.proofs.Common.{refl, ◌∙◌, sym, subst}
use Rattle.{event_log.specs.declared.ids.CpuId.CpuId, layer_traits.specs.Layers.BufferLaw.call_state_of, cpu_workers.{specs.Calls.IsOn, proofs.Going.not_begun}}
use Rattle.cpu_workers.proofs.workers.calling.call.Goals as goal

pub loop-init : goal.loop-init
loop-init g c = record {
  coupled = c.requires.coupled;
  cpu = refl;
  opening = refl;
  machine_id = refl;
  under_way = c.requires.under_way;
  may = tt;
  ended = refl;
  on = not_begun _ c.args.t c.args.call.now _ _ c.requires.idle;
}

pub loop-preserved : goal.loop-preserved
loop-preserved g c =
    let I = g.I.CallLayer in
    let known = c.loop.invariant in
    let e = c.poll_once.ensures in
    let goes = c.in-Err.ensures.goes in
    let t = c.args.t in
    let first = I.history c.args.m.now in record {
      coupled = e.coupled;
      cpu = e.cpu ∙ known.cpu;
      opening = e.opening ∙ known.opening;
      machine_id = e.machine_id ∙ known.machine_id;
      under_way = goes.0;
      may = goes.1;
      ended = e.ended ∙ known.ended;
      on =
          subst (λ (d : CpuId). IsOn d t c.args.call.now (call_state_of (I.local c.poll_once.new.part).call_states t) first (I.history c.poll_once.new.m))
          known.cpu
          (goes.2 first (subst (λ (d : CpuId). IsOn d t c.args.call.now (call_state_of (I.local c.loop.part).call_states t) first (I.history c.loop.m))
          (sym known.cpu) known.on));
    }
