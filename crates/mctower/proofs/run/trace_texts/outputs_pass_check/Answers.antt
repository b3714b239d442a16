use Rattle.tracer.proofs.CompleteLemmas.{complete}
use Rattle.mctower.proofs.run.trace_texts.outputs_pass_check.Goals as goal

pub returns : goal.returns
returns c text caps traces left is = complete text caps is.order left is.spelled is.run
