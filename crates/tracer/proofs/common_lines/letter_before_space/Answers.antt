use Rattle.std.proofs.Common.{◌∷◌, [], arith}
use Rattle.tracer.proofs.CommonLemmas.{ends_behind_space}
use Rattle.tracer.proofs.common_lines.letter_before_space.Goals as goal

pub returns-clause-ends : goal.returns-clause-ends
returns-clause-ends c = grind (arith, ends_behind_space c.args.text.now (101 ∷ []) c.in_ok-rest.rest.now)
