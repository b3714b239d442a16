use Rattle.{std.proofs.Common.sym, tracer.{specs.Pieces.{text_of, spaced}, proofs.SinkLemmas.failed_in}}
use Rattle.tracer.proofs.writing.put_pieces.Goals as goal

pub returns-in_err-put_piece-clause-out : goal.returns-in_err-put_piece-clause-out
returns-in_err-put_piece-clause-out g c =
    failed_in (λ p. spaced (text_of p)) c.args.pieces.now c.loop-piece.piece-index _ _ _ _ _
    c.loop-piece-test.true c.loop-piece.invariant.out (sym c.in_err-put_piece.ensures.failed) c.in_err-put_piece.ensures.out
