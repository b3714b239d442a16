-- One digit, two or three, read one after another.
use Rattle.std.proofs.Common.{◌+◌, ◌*◌, refl, arith}
use Rattle.mctower.proofs.ScheduleLemmas.{digit_more, first_digit, front_item, two_digits}
use Rattle.mctower.proofs.line.schedules.cpu_digits.Goals as goal

pub returns-then-is_comma_at-clause-item : goal.returns-then-is_comma_at-clause-item
returns-then-is_comma_at-clause-item c =
    let one = c.if-not-is_digit_at.ensures refl in
    front_item c.args.text.now 1 c.from-first.result (first_digit c.args.text.now c.from-first.result one.0 one.1 c.from-first.ensures) (omega arith) one.0
    (λ more. absurd (omega arith))

pub returns-then-is_comma_at-2-clause-item : goal.returns-then-is_comma_at-2-clause-item
returns-then-is_comma_at-2-clause-item c =
    let one = c.if-not-is_digit_at.ensures refl in
    let two = c.if-not-is_digit_at-2.ensures refl in
    front_item c.args.text.now 2 (c.from-first.result * 10 + c.from.result)
    (two_digits c.args.text.now c.from-first.result c.from.result one c.from-first.ensures two c.from.ensures) (omega arith) two.0
    (λ more zero. omega (arith, c.from-first.ensures))

pub returns-clause-item : goal.returns-clause-item
returns-clause-item c =
    let text = c.args.text.now in
    let one = c.if-not-is_digit_at.ensures refl in
    let two = c.if-not-is_digit_at-2.ensures refl in
    let three = c.if-not-is_digit_at-3.ensures refl in
    let number = c.from-first.result * 10 + c.from.result in
    let read = two_digits text c.from-first.result c.from.result one c.from-first.ensures two c.from.ensures in
    front_item text 3 (number * 10 + c.from-2.result)
    (digit_more text 2 number c.from-2.result read three.0 three.1 c.from-2.ensures c.if-three-gt-LAST_CPU.false) (omega arith) three.0
    (λ more zero. omega (arith, c.from-first.ensures))
