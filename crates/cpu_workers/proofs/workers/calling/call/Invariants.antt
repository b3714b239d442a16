use Rattle.std.proofs.Common.{◌≡◌}
use Rattle.{layer_traits.specs.{Views.OwnParts.threads_in, Layers.BufferLaw.call_state_of}, cpu_workers.specs.Calls.{IsOn, MayPollBegun, begun_under_way}}
use Rattle.cpu_workers.proofs.workers.calling.call.Given as goal

abbrev pub invariant-loop : goal.invariant-loop
invariant-loop g l = record {
  coupled : g.I.CallLayer.Coupled l.part l.m;
  cpu : g.I.CallLayer.cpu_of l.part ≡ g.I.CallLayer.cpu_of l.initial.part;
  opening : g.I.CallLayer.opening l.m ≡ g.I.CallLayer.opening l.initial.m;
  machine_id : g.I.CallLayer.machine_id l.m ≡ g.I.CallLayer.machine_id l.initial.m;
  under_way : g.I.CallLayer.under_way l.part ≡ begun_under_way l.t l.begun;
  may : MayPollBegun l.t (threads_in (g.I.CallLayer.local l.part)) l.begun;
  ended : (threads_in (g.I.CallLayer.local l.part)).ended ≡ (threads_in (g.I.CallLayer.local l.initial.part)).ended;
  on : IsOn (g.I.CallLayer.cpu_of l.initial.part) l.t l.call (call_state_of (g.I.CallLayer.local l.part).call_states l.t) (g.I.CallLayer.history l.initial.m)
      (g.I.CallLayer.history l.m);
}
