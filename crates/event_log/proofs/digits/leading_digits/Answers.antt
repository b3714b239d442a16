use Rattle.std.proofs.Common.{◌≡◌, arith}
use Rattle.event_log.proofs.DigitsLemmas.{read_digits, reads_one_more, short_stays_below}
use Rattle.event_log.proofs.digits.leading_digits.Goals as goal

pub returns-then-not-is_ascii_digit-clause-digits : goal.returns-then-not-is_ascii_digit-clause-digits
returns-then-not-is_ascii_digit-clause-digits c =
    read_digits 18446744073709551615 c.args.text.now c.loop-count.count c.loop-count.number c.loop-count.invariant

pub overflow_mul-number : goal.overflow_mul-number
overflow_mul-number c = grind (arith, short_stays_below)

pub overflow_add-number : goal.overflow_add-number
overflow_add-number c = grind (arith, short_stays_below)

pub loop-count-preserved : goal.loop-count-preserved
loop-count-preserved c =
    let below = short_stays_below c.args.text.now c.loop-count.count c.loop-count.number c.loop-count.invariant in
    let more = reads_one_more 18446744073709551615 c.args.text.now c.loop-count.count c.loop-count.number c.loop-count.invariant in
    rw c.from.ensures (grind (arith, below, more, c.min-most.ensures, c.loop-count-test.true, c.is_ascii_digit.ensures.value, c.if-not-is_ascii_digit.false))

pub returns-clause-digits : goal.returns-clause-digits
returns-clause-digits c =
    let all = read_digits 18446744073709551615 c.args.text.now c.loop-count.count c.loop-count.number c.loop-count.invariant in
    let same : c.loop-count.count ≡ c.min-most.result = omega arith in
    rw (← same) all
