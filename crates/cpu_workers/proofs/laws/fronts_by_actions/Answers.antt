use Rattle.cpu_workers.proofs.Implied.{fronts_by_actions as law}
use Rattle.cpu_workers.proofs.laws.fronts_by_actions.Goals as goal

pub returns : goal.returns
returns c = law
