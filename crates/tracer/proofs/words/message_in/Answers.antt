use Rattle.{std.proofs.Common.arith, tracer.proofs.MessageLemmas.reads_number}
use Rattle.tracer.proofs.words.message_in.Goals as goal

pub returns-in-Some : goal.returns-in-Some
returns-in-Some c = grind (arith, reads_number)
