use Rattle.{std.proofs.Common.arith, tracer.proofs.PartLemmas.bytes_moved}
use Rattle.tracer.proofs.parts.Part.drop_front.Goals as goal

pub returns-clause-held : goal.returns-clause-held
returns-clause-held c = grind (arith, bytes_moved)
