use Rattle.std.proofs.Common.{◌≡◌, ◌≤◌, ◌<◌, ◌-◌, ◌==◌, ℕ, false, get_or, length}
use Rattle.tracer.proofs.pieces.chunk_with.Given as goal

abbrev pub invariant-loop-chunk : goal.invariant-loop-chunk
invariant-loop-chunk l = record {
  inside : l.start ≤ length l.text;
  before : (k : ℕ) → k < l.start → (get_or l.text k 0 == l.at) ≡ false;
}

abbrev pub decreases-loop-chunk : goal.decreases-loop-chunk
decreases-loop-chunk l = length l.text - l.start
