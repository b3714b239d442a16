-- No read that was interrupted took or wrote anything that counts.
use Rattle.std.{proofs.Common.{◌≡◌, length, take}, specs.Io.KnownBytes.Keeps}
use Rattle.tracer.proofs.reads.read_behind.Given as goal

abbrev pub invariant-loop : goal.invariant-loop
invariant-loop g l = record {
  room : length l.bytes ≡ length l.initial.bytes;
  front : take l.at l.bytes ≡ take l.at l.initial.bytes;
  kept : Keeps (g.R.Read.remaining l.initial.input) (g.R.Read.remaining l.input);
}
