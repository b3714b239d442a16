use Rattle.{tracer.proofs.SinkLemmas.failed_at, std.proofs.Common.arith}
use Rattle.tracer.proofs.writing.put_entries.Goals as goal

pub returns-in_err-put_entry-clause-out : goal.returns-in_err-put_entry-clause-out
returns-in_err-put_entry-clause-out g c = grind (arith, failed_at)
