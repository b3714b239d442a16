-- A text that is digits to its end spells the number that was read; any other is read again, one
-- digit at a time.
use Rattle.std.{proofs.{Common.{◌≡◌, ◌<◌, length, get_or, arith, sym, ◌∙◌, ap, Some, take_all}, lemmas.Bool.Decides.nat_tests}, specs.Str.Parse.digits_value}
use Rattle.event_log.proofs.DigitsLemmas.{IsSpelled, digits_spelled, number_to-beyond, number_to-spelled}
use Rattle.event_log.proofs.digits.number_to.Goals.{else-text-eq48-via-then-text-eq48+else-text-gt1, else-text-eq48-via-else-text-eq48}
use Rattle.event_log.proofs.digits.number_to.Goals as goal

pub returns-then-number-most-clause-number : goal.returns-then-number-most-clause-number
returns-then-number-most-clause-number c =
    let text = c.args.text.now in
    let value : c.leading_digits-count.result.1 ≡ digits_value 10 text =
    c.leading_digits-count.ensures.number ∙ ap (digits_value 10) (take_all c.leading_digits-count.result.0 text c.if-count-text.false) in
    sym (number_to-beyond c.args.most text (omega (arith, value, c.if-number-most.true)))

lead : (c : goal.Else-number-most) → get_or c.args.text.now 0 0 ≡ 48 → length c.args.text.now ≡ 1
lead c e =
    let more : 0 < length c.args.text.now = grind (arith, nat_tests) in
    elim c.else-text-eq48.branch [
      | else-text-eq48-via-then-text-eq48+else-text-gt1 w ↦ let short = w.if-text-gt1.false in omega arith
      | else-text-eq48-via-else-text-eq48 w ↦ absurd (w.if-text-eq48.false e)
    ]

pub returns-clause-number : goal.returns-clause-number
returns-clause-number c =
    let text = c.args.text.now in
    let some : 0 < length text = grind (arith, nat_tests) in
    let value : c.leading_digits-count.result.1 ≡ digits_value 10 text =
    c.leading_digits-count.ensures.number ∙ ap (digits_value 10) (take_all c.leading_digits-count.result.0 text c.if-count-text.false) in
    let spelled : IsSpelled text
    = digits_spelled text c.leading_digits-count.result.0 c.leading_digits-count.ensures.digits c.if-count-text.false some (lead c) in
    sym (number_to-spelled c.args.most text spelled (omega (arith, value, c.if-number-most.false)) ∙ ap Some (sym value))
