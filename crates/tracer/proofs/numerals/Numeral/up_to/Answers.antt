use Rattle.std.proofs.Common.{sym, ◌∙◌, arith}
use Rattle.tracer.proofs.NumeralLemmas.{in_range_read, in_range_beyond, in_range_unread}
use Rattle.tracer.proofs.numerals.Numeral.up_to.Goals as goal

pub returns-in-Some-clause-exact : goal.returns-in-Some-clause-exact
returns-in-Some-clause-exact c = sym (in_range_read c.args.most c.args.self.text.now c.in-Some.number (sym c.args.self.read ∙ c.in-Some.is) (omega arith))

pub returns-in_default-clause-exact : goal.returns-in_default-clause-exact
returns-in_default-clause-exact c = sym (in_range_beyond c.args.most c.args.self.text.now c.in-Some.number (sym c.args.self.read ∙ c.in-Some.is) (omega arith))

pub returns-in_default-2-clause-exact : goal.returns-in_default-2-clause-exact
returns-in_default-2-clause-exact c = grind (arith, in_range_unread)
