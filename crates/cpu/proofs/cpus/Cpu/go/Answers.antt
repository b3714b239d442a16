use Rattle.cpu.proofs.{CpuSteps.CpuRuns.{goes_once, ran_once}, OverLayer.CpuOverLayer.{laws_of, layered, runs_within}}
use Rattle.cpu.proofs.cpus.Cpu.go.Goals as goal

pub choice-requires : goal.choice-requires
choice-requires g c = runs_within (layered (laws_of g.met.I.CallLayer) c.args.m.now c.args.self.now c.requires.agrees)

pub passes-requires-clause-goes : goal.passes-requires-clause-goes
passes-requires-clause-goes g c = goes_once c.requires

pub compute-requires-clause-goes : goal.compute-requires-clause-goes
compute-requires-clause-goes g c = goes_once c.requires

pub returns-in-Passes : goal.returns-in-Passes
returns-in-Passes g c = ran_once c.requires c.passes.ensures

pub returns-in-Computes : goal.returns-in-Computes
returns-in-Computes g c = ran_once c.requires c.compute.ensures
