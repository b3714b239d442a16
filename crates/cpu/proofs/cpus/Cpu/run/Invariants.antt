use Rattle.std.proofs.Common.{◌≡◌, ◌-◌, ◌<◌, None}
use Rattle.cpu.specs.CpuSteps.{RunsAt, stops_at}
use Rattle.cpu.proofs.cpus.Cpu.run.Given as goal

-- fewer steps were taken than may be, and the CPU is not halted
abbrev pub invariant-loop-most : goal.invariant-loop-most
invariant-loop-most g l = record {
  few : l.taken < l.most;
  live : stops_at g.I.CallLayer l.self ≡ None;
  ran : RunsAt g.I.CallLayer l.initial.m l.initial.self l.taken l.m l.self;
}

abbrev pub decreases-loop-most : goal.decreases-loop-most
decreases-loop-most g l = l.most - l.taken
