-- What is filled grew by what was read.
use Rattle.std.proofs.Common.{◌≡◌, ◌-◌, ◌≤◌, length, take}
use Rattle.tracer.specs.Inputs.{IsReadBehind}
use Rattle.tracer.proofs.parts.fill_behind.Given as goal

abbrev pub invariant-loop-filled : goal.invariant-loop-filled
invariant-loop-filled g l = record {
  room : length l.bytes ≡ length l.initial.bytes;
  fits : l.filled ≤ length l.bytes;
  read : IsReadBehind (take l.at l.initial.bytes) (take l.filled l.bytes) (g.R.Read.remaining l.initial.input) (g.R.Read.remaining l.input);
}

abbrev pub decreases-loop-filled : goal.decreases-loop-filled
decreases-loop-filled g l = length l.bytes - l.filled
