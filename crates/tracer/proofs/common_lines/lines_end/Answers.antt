use Rattle.tracer.proofs.CommonLemmas.{none_behind}
use Rattle.tracer.proofs.common_lines.lines_end.Goals as goal

pub returns-else-text-end-ne10-clause-behind : goal.returns-else-text-end-ne10-clause-behind
returns-else-text-end-ne10-clause-behind c = none_behind c.args.text.now c.loop-end.end c.loop-end.invariant.behind

pub returns-after-loop-end-clause-behind : goal.returns-after-loop-end-clause-behind
returns-after-loop-end-clause-behind c = none_behind c.args.text.now c.loop-end.end c.loop-end.invariant.behind
