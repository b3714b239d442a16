use Rattle.layer_traits.proofs.SpinLemmas.{none_missed}
use Rattle.layer_traits.proofs.layers.Layer.spin.Goals as goal

pub returns-clause-tries : goal.returns-clause-tries
returns-clause-tries g c = λ step. none_missed (g.Self.Layer.cpu_of c.args.self.now) (g.Self.Layer.acts c.args.m.now)
