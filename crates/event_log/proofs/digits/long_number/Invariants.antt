-- What is read so far is the number that the digits so far write, and it is not too large.
use Rattle.event_log.proofs.DigitsLemmas.{ReadsUpTo}
use Rattle.event_log.proofs.digits.long_number.Given as goal

abbrev pub invariant-loop-byte : goal.invariant-loop-byte
invariant-loop-byte l = ReadsUpTo l.most l.text l.byte-index l.number
