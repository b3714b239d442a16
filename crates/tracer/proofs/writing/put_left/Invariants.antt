use Rattle.std.{proofs.Common.{◌≡◌, take, false}, specs.{List.flat_map, Io.KnownBytes.Appends}}
use Rattle.tracer.specs.TraceText.{text_line, left_pieces, numbered}
use Rattle.tracer.proofs.writing.put_left.Given as goal

abbrev pub invariant-loop-b : goal.invariant-loop-b
invariant-loop-b g l = record {
  live : l.sink.failed ≡ false;
  out : Appends (g.W.Write.contents l.fn.sink.writer) (g.W.Write.contents l.sink.writer)
      (flat_map text_line (numbered (λ b v. left_pieces b v.items) 0 (take l.b l.left)));
}
