use Rattle.std.{proofs.Common.{◌≡◌, ℕ, List, ◌++◌, length, false}, specs.Io.KnownBytes.Appends}
use Rattle.tracer.proofs.sinks.Sink.put.Given as goal

abbrev pub invariant-loop-rest : goal.invariant-loop-rest
invariant-loop-rest g l = record {
  live : l.self.failed ≡ false;
  held : l.self.flushed ≡ false;
  out : (done : List ℕ) × (l.piece ≡ done ++ l.rest) × Appends (g.W.Write.contents l.fn.self.writer) (g.W.Write.contents l.self.writer) done;
}

abbrev pub decreases-loop-rest : goal.decreases-loop-rest
decreases-loop-rest g l = length l.rest
