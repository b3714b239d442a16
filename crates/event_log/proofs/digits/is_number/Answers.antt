use Rattle.{std.proofs.{Common.arith, lemmas.Bool.Decides.nat_tests}, event_log.proofs.DigitsLemmas.{is_number-empty, is_number-zero, is_number-digits}}
use Rattle.event_log.proofs.digits.is_number.Goals as goal

pub returns-then-is_empty : goal.returns-then-is_empty
returns-then-is_empty c = grind (arith, is_number-empty, nat_tests)

pub returns-then-text-eq48 : goal.returns-then-text-eq48
returns-then-text-eq48 c = grind (arith, nat_tests, is_number-zero)

pub returns : goal.returns
returns c = grind (arith, nat_tests, is_number-digits)
