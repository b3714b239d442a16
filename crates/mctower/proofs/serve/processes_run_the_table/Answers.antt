use Rattle.mctower.proofs.TopLemmas.{processes_run_the_table as law}
use Rattle.mctower.proofs.serve.processes_run_the_table.Goals as goal

pub returns : goal.returns
returns c = law
