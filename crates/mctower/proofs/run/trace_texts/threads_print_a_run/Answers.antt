use Rattle.mctower.proofs.ThreadsAreRuns.{threads_print_a_run as law}
use Rattle.mctower.proofs.run.trace_texts.threads_print_a_run.Goals as goal

pub returns : goal.returns
returns c = law
