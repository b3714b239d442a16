use Rattle.cpu_workers.proofs.RealTime.{returned_come_first as law}
use Rattle.cpu_workers.proofs.laws.returned_come_first.Goals as goal

pub returns : goal.returns
returns c = law
