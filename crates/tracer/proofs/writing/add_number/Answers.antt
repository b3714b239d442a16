use Rattle.std.proofs.{Common.{arith}, lemmas.{Fmt.length-decimal-le, List.drop-set}}
use Rattle.tracer.proofs.writing.add_number.Goals as goal

pub write_digits-at-requires : goal.write_digits-at-requires
write_digits-at-requires c = grind (arith, length-decimal-le 20 c.args.number)

pub overflow_sub-at : goal.overflow_sub-at
overflow_sub-at c = omega (arith, length-decimal-le 20 c.args.number (omega arith) (omega arith) c.ranges.number.fits)

pub returns-clause-room : goal.returns-clause-room
returns-clause-room c = omega (arith, length-decimal-le 20 c.args.number (omega arith) (omega arith) c.ranges.number.fits)

pub returns-clause-line : goal.returns-clause-line
returns-clause-line c = grind (arith, length-decimal-le 20 c.args.number, drop-set)
