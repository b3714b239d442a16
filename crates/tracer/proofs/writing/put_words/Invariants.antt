use Rattle.std.{proofs.Common.{◌≡◌, take, false}, specs.{List.flat_map, Io.KnownBytes.Appends}}
use Rattle.tracer.specs.Pieces.{behind_comma}
use Rattle.tracer.proofs.writing.put_words.Given as goal

abbrev pub invariant-loop-word : goal.invariant-loop-word
invariant-loop-word g l = record {
  live : l.sink.failed ≡ false;
  out : Appends (g.W.Write.contents l.fn.sink.writer) (g.W.Write.contents l.sink.writer) (flat_map behind_comma (take l.word-index l.words));
}
