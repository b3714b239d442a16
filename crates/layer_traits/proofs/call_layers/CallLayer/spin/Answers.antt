use Rattle.layer_traits.proofs.SpinLemmas.{none_missed}
use Rattle.layer_traits.proofs.call_layers.CallLayer.spin.Goals as goal

pub returns-clause-tries : goal.returns-clause-tries
returns-clause-tries g c = λ step. none_missed (g.Self.CallLayer.cpu_of c.args.self.now) (g.Self.CallLayer.acts c.args.m.now)
