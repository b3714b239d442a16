use Rattle.std.{proofs.Common.{◌≡◌, take, false}, specs.{List.flat_map, Io.KnownBytes.Appends}}
use Rattle.tracer.specs.Sinks.{has_failed, writer_of}
use Rattle.mctower.proofs.tell.pieces.put_each.Given as goal

-- the pieces before the index are out
abbrev pub invariant-loop-piece : goal.invariant-loop-piece
invariant-loop-piece g l = record {
  live : has_failed l.sink ≡ false;
  out : Appends (g.W.Write.contents (writer_of l.fn.sink)) (g.W.Write.contents (writer_of l.sink)) (flat_map (λ p. p.now) (take l.piece-index l.pieces));
}
