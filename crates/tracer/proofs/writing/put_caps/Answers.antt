use Rattle.{tracer.{specs.TraceText.cap_pieces, proofs.{SinkLemmas.all_out, LineLemmas.{numbered_out, numbered_failed}}}, std.proofs.Common.arith}
use Rattle.tracer.proofs.writing.put_caps.Goals as goal

pub loop-b-preserved : goal.loop-b-preserved
loop-b-preserved g c = grind (arith, numbered_out cap_pieces, all_out)

pub returns-in_err-put_line-clause-out : goal.returns-in_err-put_line-clause-out
returns-in_err-put_line-clause-out g c = grind (arith, numbered_failed cap_pieces)
