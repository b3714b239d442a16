use Rattle.std.proofs.Common.{refl}
use Rattle.cpu_workers.proofs.workers.seats.TowerSeatWords.spin.Goals as goal

pub returns-clause-adds : goal.returns-clause-adds
returns-clause-adds g c = (0, refl)
