use Rattle.std.proofs.Common.{List, map, reverse, ap, sym, ◌∙◌}
use Rattle.event_log.specs.{declared.{entries.Entry.Entry, ids.CpuId.CpuId}, Actions.phase, Sections.sections_in}
use Rattle.{layer_traits.specs.{Blocks.BufferEffects.effects_in, Polling.Plans.is_in_section, Layers.Queues.{buffer_sections, event_of}}, cpu.specs.Cpus.of_cpu}
use Rattle.cpu_workers.proofs.workers.callers.Caller.into_machine.Goals as goal

pub returns-clause-trace : goal.returns-clause-trace
returns-clause-trace g c =
    let x = c.self.inside in
    rw (← c.self.view_is) (λ step. ap (λ (l : List Entry). reverse (of_cpu x.cpu l)) (g.met.I.CallLayer.seen_is step x.machine
    ∙ ap (λ o. effects_in o (buffer_sections (map event_of (sections_in (g.I.CallLayer.acts x.machine))))) c.self.invariant.opens))

pub returns-clause-rests : goal.returns-clause-rests
returns-clause-rests g c =
    let law = g.met.I.CallLayer in
    let x = c.self.inside in
    let is = c.self.invariant in
    rw (← c.self.view_is) (λ step. ap (λ (d : CpuId). is_in_section (phase d (g.I.CallLayer.acts x.machine))) (sym is.coupled.1)
    ∙ sym (law.busy x.part x.machine is.coupled.0 step) ∙ law.idle x.part x.machine is.coupled.0 is.nothing)
