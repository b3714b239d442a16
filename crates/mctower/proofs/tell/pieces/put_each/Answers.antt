use Rattle.{std.proofs.Common.sym, tracer.proofs.SinkLemmas.failed_in}
use Rattle.mctower.proofs.tell.pieces.put_each.Goals as goal

pub returns-in_err-put-clause-out : goal.returns-in_err-put-clause-out
returns-in_err-put-clause-out g c =
    failed_in (λ p. p.now) c.args.pieces.now c.loop-piece.piece-index _ _ _ _ _ c.loop-piece-test.true c.loop-piece.invariant.out
    (sym c.in_err-put.ensures.failed) c.in_err-put.ensures.out
