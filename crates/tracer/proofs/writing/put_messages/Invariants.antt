use Rattle.std.{proofs.Common.{◌≡◌, take, false}, specs.{List.flat_map, Io.KnownBytes.Appends}}
use Rattle.tracer.specs.{TraceText.message_text, Pieces.spaced}
use Rattle.tracer.proofs.writing.put_messages.Given as goal

abbrev pub invariant-loop-message : goal.invariant-loop-message
invariant-loop-message g l = record {
  live : l.sink.failed ≡ false;
  out : Appends (g.W.Write.contents l.fn.sink.writer) (g.W.Write.contents l.sink.writer)
      (flat_map (λ m. spaced (message_text m)) (take l.message-index l.messages));
}
