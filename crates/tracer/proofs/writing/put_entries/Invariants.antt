use Rattle.std.{proofs.Common.{◌≡◌, take, false}, specs.{List.flat_map, Io.KnownBytes.Appends}}
use Rattle.tracer.specs.TraceText.{text_line, entry_pieces}
use Rattle.tracer.proofs.writing.put_entries.Given as goal

abbrev pub invariant-loop-entry : goal.invariant-loop-entry
invariant-loop-entry g l = record {
  live : l.sink.failed ≡ false;
  out : Appends (g.W.Write.contents l.fn.sink.writer) (g.W.Write.contents l.sink.writer)
      (flat_map (λ e. text_line (entry_pieces e.now)) (take l.entry-index l.entries));
}
