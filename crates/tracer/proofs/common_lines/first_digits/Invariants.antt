-- The digits so far are read, where they are few; after them the text continues.
use Rattle.std.proofs.Common.{◌-◌, ◌<◌, ◌≤◌, length}
use Rattle.event_log.proofs.DigitsLemmas.{ReadsUpTo}
use Rattle.tracer.proofs.common_lines.first_digits.Given as goal

abbrev pub invariant-loop-digit : goal.invariant-loop-digit
invariant-loop-digit l = record {
  some : 0 < l.count;
  inside : l.count < length l.text;
  read : l.count ≤ 19 → ReadsUpTo 18446744073709551615 l.text l.count l.number;
}

abbrev pub decreases-loop-digit : goal.decreases-loop-digit
decreases-loop-digit l = length l.text - l.count
