use Rattle.std.{proofs.Common.{◌≡◌, take, false}, specs.{List.flat_map, Io.KnownBytes.Appends}}
use Rattle.{tracer.specs.{Sinks.{has_failed, writer_of}, TraceText.{text_line, numbered}}, mctower.specs.Threads.stop_pieces}
use Rattle.mctower.proofs.serve.worker_runs.put_stops.Given as goal

-- the lines of the CPUs before this one are out
abbrev pub invariant-loop-c : goal.invariant-loop-c
invariant-loop-c g l = record {
  live : has_failed l.sink ≡ false;
  out : Appends (g.W.Write.contents (writer_of l.fn.sink)) (g.W.Write.contents (writer_of l.sink))
      (flat_map text_line (numbered stop_pieces 0 (take l.c l.stops)));
}
