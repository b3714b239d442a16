use Rattle.cpu.proofs.Wakeups.EachThreadPlaced.{stand_in_one_place}
use Rattle.cpu.proofs.laws.stand_in_one_place.Goals as goal

pub returns : goal.returns
returns c = stand_in_one_place
