use Rattle.{std.{proofs.Common.arith, specs.Prelude.decimal}, tracer.proofs.CommonLemmas.ends_behind_space}
use Rattle.tracer.proofs.common_lines.number_before_space.Goals as goal

pub returns-clause-ends : goal.returns-clause-ends
returns-clause-ends c = grind (arith, ends_behind_space c.args.text.now (decimal c.in_ok-number.number) c.in_ok-number.rest.now)
