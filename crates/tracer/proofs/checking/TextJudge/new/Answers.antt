use Rattle.{tracer.specs.Judging.verdict_of, std.proofs.Common.arith}
use Rattle.tracer.proofs.checking.TextJudge.new.Goals as goal

pub returns-clause-judged : goal.returns-clause-judged
unfolding verdict_of
returns-clause-judged c = grind arith
