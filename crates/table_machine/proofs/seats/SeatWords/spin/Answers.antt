use Rattle.std.proofs.Common.{refl}
use Rattle.table_machine.proofs.seats.SeatWords.spin.Goals as goal

pub returns-clause-adds : goal.returns-clause-adds
returns-clause-adds g c = (0, refl)
