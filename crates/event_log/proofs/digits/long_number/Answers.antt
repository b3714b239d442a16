-- Each early return has a text that spells no number of at most `most`.
use Rattle.std.proofs.Common.{◌+◌, ◌*◌, ◌-◌, ◌≤◌, get_or, arith, sym, ◌∙◌}
use Rattle.event_log.proofs.DigitsLemmas.{number_to-not_a_digit, number_to-too_large, reads_one_more, reads_all}
use Rattle.event_log.proofs.digits.long_number.Goals as goal

pub returns-then-not-is_ascii_digit-clause-number : goal.returns-then-not-is_ascii_digit-clause-number
returns-then-not-is_ascii_digit-clause-number c = grind (arith, number_to-not_a_digit)

pub returns-then-number-tenth-clause-number : goal.returns-then-number-tenth-clause-number
returns-then-number-tenth-clause-number c = grind (arith, number_to-too_large)

pub returns-then-digit-most-clause-number : goal.returns-then-digit-most-clause-number
returns-then-digit-most-clause-number c = grind (arith, number_to-too_large)

pub loop-byte-preserved : goal.loop-byte-preserved
loop-byte-preserved c =
    let fits : c.loop-byte.number * 10 + (get_or c.args.text.now c.loop-byte.byte-index 0 - 48) ≤ c.args.most =
    omega (arith, c.if-number-tenth.false, c.if-digit-most.false) in
    rw c.from-digit.ensures (reads_one_more c.args.most c.args.text.now c.loop-byte.byte-index c.loop-byte.number c.loop-byte.invariant c.loop-byte-test.true
    (sym c.is_ascii_digit.ensures.value ∙ c.if-not-is_ascii_digit.false) fits)

pub returns-clause-number : goal.returns-clause-number
returns-clause-number c = grind (arith, reads_all)
