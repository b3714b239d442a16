use Rattle.std.proofs.Common.{◌≡◌}
use Rattle.{event_log.specs.declared.ids.CpuId.CpuId, layer_traits.specs.{Protocols.Protocol.section, Layers.BufferLaw.MayGoOn}, cpu_workers.specs.Counts.made}
use Rattle.cpu_workers.proofs.counting.sections.add_one.Given as goal

abbrev pub invariant-loop : goal.invariant-loop
invariant-loop g l = record {
  coupled : g.L.Layer.Coupled l.part l.machine;
  cpu : g.L.Layer.cpu_of l.part ≡ g.L.Layer.cpu_of l.initial.part;
  opening : g.L.Layer.opening l.machine ≡ g.L.Layer.opening l.initial.machine;
  machine_id : g.L.Layer.machine_id l.machine ≡ g.L.Layer.machine_id l.initial.machine;
  acts : (c : CpuId) → g.L.Layer.ActsFor l.initial.machine c → g.L.Layer.ActsFor l.machine c;
  call : MayGoOn (g.L.Layer.under_way l.part) (section (g.L.Layer.cpu_of l.initial.part) l.lock (record {}));
  made : made (g.L.Layer.cpu_of l.initial.part) l.lock (g.L.Layer.history l.machine)
      ≡ made (g.L.Layer.cpu_of l.initial.part) l.lock (g.L.Layer.history l.initial.machine);
}
