use Rattle.{std.proofs.Common.arith, tracer.proofs.MessageLemmas.takes_first}
use Rattle.tracer.proofs.effects.take.Goals as goal

pub returns : goal.returns
returns c = grind (arith, takes_first)
