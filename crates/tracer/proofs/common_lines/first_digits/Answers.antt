use Rattle.std.{proofs.Common.{◌≡◌, true, get_or, arith}, specs.Char.is_ascii_digit}
use Rattle.tracer.proofs.CommonLemmas.{digit_goes_on, digits_more, zero_spelled}
use Rattle.tracer.proofs.common_lines.first_digits.Goals as goal

pub returns-then-number-eq0-clause-spelled : goal.returns-then-number-eq0-clause-spelled
returns-then-number-eq0-clause-spelled c = λ few. grind (arith, zero_spelled c.args.text.now)

pub loop-digit-preserved : goal.loop-digit-preserved
loop-digit-preserved c =
    let text = c.args.text.now in
    let digit : is_ascii_digit (get_or text c.loop-digit.count 0) ≡ true = grind (arith, c.is_ascii_digit.ensures.value, c.loop-digit-test.true) in
    record {
      some = omega arith;
      inside = digit_goes_on text c.loop-digit.count c.requires.ends c.loop-digit.invariant.inside digit;
      read = digits_more text c.loop-digit.count c.loop-digit.number c.from-digit.result c.loop-digit.invariant.read c.loop-digit.invariant.inside digit
          c.from-digit.ensures;
    }
