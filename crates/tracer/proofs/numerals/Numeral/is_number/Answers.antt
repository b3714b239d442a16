use Rattle.{std.proofs.Common.arith, tracer.proofs.NumeralLemmas.is_number_read}
use Rattle.tracer.proofs.numerals.Numeral.is_number.Goals as goal

pub returns-in-Some : goal.returns-in-Some
returns-in-Some c = grind (arith, is_number_read)
