use Rattle.std.{proofs.Common.{◌≡◌, take, false}, specs.{List.flat_map, Io.KnownBytes.Appends}}
use Rattle.tracer.specs.Pieces.{text_of, spaced}
use Rattle.tracer.proofs.writing.put_pieces.Given as goal

abbrev pub invariant-loop-piece : goal.invariant-loop-piece
invariant-loop-piece g l = record {
  live : l.sink.failed ≡ false;
  out : Appends (g.W.Write.contents l.fn.sink.writer) (g.W.Write.contents l.sink.writer) (flat_map (λ p. spaced (text_of p)) (take l.piece-index l.pieces));
}
