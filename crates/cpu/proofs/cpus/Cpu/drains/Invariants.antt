use Rattle.std.proofs.Common.{◌≡◌, ◌-◌, ◌<◌, None}
use Rattle.{layer_traits.specs.{Views.OwnParts.threads_in, declared.passes.Pass.TheVariants.Drain}, cpu.specs.declared.cpus.Choice.TheVariants.Passes}
use Rattle.cpu.specs.{Cpus.chosen, CpuSteps.{RunsAt, stops_at}}
use Rattle.cpu.proofs.cpus.Cpu.drains.Given as goal

-- fewer steps were taken than may be, and the CPU continues to drain
abbrev pub invariant-loop-taken : goal.invariant-loop-taken
invariant-loop-taken g l = record {
  few : l.taken < l.most;
  live : stops_at g.I.CallLayer l.self ≡ None;
  chosen : chosen (threads_in (g.I.CallLayer.local l.self.part)) l.self.guests.items ≡ Passes Drain;
  ran : RunsAt g.I.CallLayer l.initial.m l.initial.self l.taken l.m l.self;
}

abbrev pub decreases-loop-taken : goal.decreases-loop-taken
decreases-loop-taken g l = l.most - l.taken
