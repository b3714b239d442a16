use Rattle.std.{proofs.Common.{◌≡◌, ◌==◌, take}, specs.List.list_any}
use Rattle.tracer.proofs.pieces.holds.Given as goal

abbrev pub invariant-loop-byte : goal.invariant-loop-byte
invariant-loop-byte l = l.found ≡ list_any (λ b. b == l.at) (take l.byte-index l.chunk)
