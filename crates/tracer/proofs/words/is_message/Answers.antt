use Rattle.{std.proofs.Common.arith, tracer.proofs.MessageLemmas.is_read}
use Rattle.tracer.proofs.words.is_message.Goals as goal

pub returns-in-Ok : goal.returns-in-Ok
returns-in-Ok c = grind (arith, is_read)
