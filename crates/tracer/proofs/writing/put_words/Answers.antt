use Rattle.{std.proofs.Common.sym, tracer.{specs.Pieces.behind_comma, proofs.SinkLemmas.failed_in}}
use Rattle.tracer.proofs.writing.put_words.Goals as goal

pub returns-in_err-put_number-clause-out : goal.returns-in_err-put_number-clause-out
returns-in_err-put_number-clause-out g c = failed_in behind_comma c.args.words.now c.loop-word.word-index 0 _ _ _ _ c.loop-word-test.true
    c.loop-word.invariant.out (sym c.in_err-put_number.ensures.failed) c.in_err-put_number.ensures.out
