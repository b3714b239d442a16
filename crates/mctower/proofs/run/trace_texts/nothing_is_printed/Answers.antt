use Rattle.mctower.proofs.TabledLemmas.{nothing_printed}
use Rattle.mctower.proofs.run.trace_texts.nothing_is_printed.Goals as goal

pub returns : goal.returns
returns c = nothing_printed
