use Rattle.mctower.proofs.TopLemmas.{runs_are_reached as law}
use Rattle.mctower.proofs.serve.runs_are_reached.Goals as goal

pub returns : goal.returns
returns c = law
