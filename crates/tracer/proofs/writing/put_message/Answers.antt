use Rattle.{std.proofs.Common.sym, tracer.proofs.{SinkLemmas.{outs_before, outs_then, all_out}, LineLemmas.message_parts}}
use Rattle.tracer.proofs.writing.put_message.Goals as goal

pub returns-in_err-put_number-clause-out : goal.returns-in_err-put_number-clause-out
returns-in_err-put_number-clause-out g c =
    let first = rw c.first.ensures at c.in_err-put_number.ensures.out in
    rw (message_parts c.args.message.now c.len-count.result c.len-count.ensures.length c.len-count.ensures.some)
    (outs_before _ _ _ _ _ (sym c.in_err-put_number.ensures.failed) first)

pub returns-clause-out : goal.returns-clause-out
returns-clause-out g c =
    let first = rw c.first.ensures at c.in_ok-put_number.ensures.out in
    let others = rw c.words.ensures at c.put_words.ensures.out in
    rw (message_parts c.args.message.now c.len-count.result c.len-count.ensures.length c.len-count.ensures.some)
    (outs_then _ _ _ _ _ _ (all_out _ _ _ _ (sym c.in_ok-put_number.ensures.failed) first) others)
