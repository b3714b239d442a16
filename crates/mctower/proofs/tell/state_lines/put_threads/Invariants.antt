use Rattle.std.{proofs.Common.{◌≡◌, take, false}, specs.{List.flat_map, Io.KnownBytes.Appends}}
use Rattle.{tracer.specs.{Sinks.{has_failed, writer_of}, TraceText.{text_line, numbered}}, mctower.specs.StateLines.thread_pieces}
use Rattle.mctower.proofs.tell.state_lines.put_threads.Given as goal

-- the lines of the threads before this one are out
abbrev pub invariant-loop-t : goal.invariant-loop-t
invariant-loop-t g l = record {
  live : has_failed l.sink ≡ false;
  out : Appends (g.W.Write.contents (writer_of l.fn.sink)) (g.W.Write.contents (writer_of l.sink))
      (flat_map text_line (numbered thread_pieces 0 (take l.t l.places)));
}
