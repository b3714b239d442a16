use Rattle.mctower.proofs.ThreadsAreRuns.{runs_have_one_text as law}
use Rattle.mctower.proofs.run.trace_texts.runs_have_one_text.Goals as goal

pub returns : goal.returns
returns c = law
