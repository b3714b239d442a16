use Rattle.layer_traits.proofs.SpinLemmas.{none_missed}
use Rattle.cpu.proofs.cpus.Cpu.spin.Goals as goal

pub returns-then-is_empty-clause-tries : goal.returns-then-is_empty-clause-tries
returns-then-is_empty-clause-tries g c = λ step. none_missed (g.I.CallLayer.cpu_of c.args.self.now.part) (g.I.CallLayer.acts c.args.m.now)
