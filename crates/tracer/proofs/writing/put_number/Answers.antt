use Rattle.{tracer.proofs.SinkLemmas.{outs_before, outs_on}, std.proofs.Common.arith}
use Rattle.tracer.proofs.writing.put_number.Goals as goal

pub returns-in_err-put-clause-out : goal.returns-in_err-put-clause-out
returns-in_err-put-clause-out g c = grind (arith, outs_before)

pub returns-clause-out : goal.returns-clause-out
returns-clause-out g c = grind (arith, outs_on)
