use Rattle.{tracer.proofs.{SinkLemmas.{outs_before, outs_on}, LineLemmas.line_text}, std.proofs.Common.arith}
use Rattle.tracer.proofs.writing.put_line.Goals as goal

pub returns-in_err-put-clause-out : goal.returns-in_err-put-clause-out
returns-in_err-put-clause-out g c = grind (arith, line_text, outs_before)

pub returns-in_err-put_pieces-clause-out : goal.returns-in_err-put_pieces-clause-out
returns-in_err-put_pieces-clause-out g c = grind (arith, line_text, outs_on, outs_before)

pub returns-in_err-put_messages-clause-out : goal.returns-in_err-put_messages-clause-out
returns-in_err-put_messages-clause-out g c = grind (arith, line_text, outs_on, outs_before)

pub returns-clause-out : goal.returns-clause-out
returns-clause-out g c = grind (arith, line_text, outs_on)
