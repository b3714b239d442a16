use Rattle.std.proofs.Common.{ap, ◌∙◌, map, reverse}
use Rattle.{event_log.specs.Sections.sections_in, layer_traits.specs.{Blocks.BufferEffects.effects_in, Layers.Queues.{buffer_sections, event_of}}}
use Rattle.{cpu.{specs.Cpus.of_cpu, proofs.OverLayer.CpuOverLayer.{laws_of, layered, tabled_cpu}}, cpu_workers.proofs.Planning.has_followed}
use Rattle.cpu_workers.proofs.workers.worker.Worker.keeps.Goals as goal

pub returns : goal.returns
returns g c =
    let I = g.I.CallLayer in
    let law = g.met.I.CallLayer in
    let m = c.self.inside.machine in
    let p = c.self.inside.cpu in
    let is = c.self.invariant in
    let cpu = layered (laws_of law) m p (record { coupled = is.coupled; number = is.number; is = is.is; table = λ step. is.tabled }) in
    let history = law.seen_is is.stepwise m ∙ ap (λ o. effects_in o (buffer_sections (map event_of (sections_in (I.acts m))))) is.opens in
    rw (← c.self.view_is) (record {
      trace = is.is.kept ∙ ap (λ l. reverse (of_cpu p.number l)) history;
      legal = law.legal m (I.cpu_of p.part) (law.own_cpu p.part m is.coupled);
      follows = has_followed (tabled_cpu cpu is.stepwise) (I.acts m) (I.machine_id m);
    })
