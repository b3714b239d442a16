use Rattle.{std.proofs.Common.arith, tracer.{specs.TraceText.kind_word, proofs.CommonLemmas.ends_behind_space}}
use Rattle.tracer.proofs.common_lines.call_before_space.Goals as goal

pub returns-clause-ends : goal.returns-clause-ends
returns-clause-ends c = grind (arith, ends_behind_space c.args.text.now (kind_word c.in_ok-kind.kind) c.in_ok-kind.rest.now)
