-- What is read so far is the number that the digits so far write.
use Rattle.event_log.proofs.DigitsLemmas.{ReadsUpTo}
use Rattle.event_log.proofs.digits.leading_digits.Given as goal

abbrev pub invariant-loop-count : goal.invariant-loop-count
invariant-loop-count l = ReadsUpTo 18446744073709551615 l.text l.count l.number
