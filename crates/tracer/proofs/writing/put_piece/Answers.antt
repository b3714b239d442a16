use Rattle.std.proofs.Common.{[], ◌∷◌, sym}
use Rattle.tracer.proofs.SinkLemmas.{outs_before, outs_on}
use Rattle.tracer.proofs.writing.put_piece.Goals as goal

pub returns-in_err-put-in-Word-clause-out : goal.returns-in_err-put-in-Word-clause-out
returns-in_err-put-in-Word-clause-out g c =
    rw c.in-Word.is (outs_before _ _ _ (32 ∷ []) c.in-Word.word.now (sym c.in_err-put-in-Word.ensures.failed) c.in_err-put-in-Word.ensures.out)

pub returns-in_ok-put-in-Word-clause-out : goal.returns-in_ok-put-in-Word-clause-out
returns-in_ok-put-in-Word-clause-out g c =
    rw c.in-Word.is (outs_on _ _ _ _ _ (32 ∷ []) c.in-Word.word.now c.in_ok-put-in-Word.ensures.failed c.in_ok-put-in-Word.ensures.out
    c.put-in-Word.ensures.out)
