use Rattle.std.proofs.Common.{arith}
use Rattle.mctower.proofs.locks.rounds.count_behind.Goals as goal

pub number_in-requires-clause-owned : goal.number_in-requires-clause-owned
number_in-requires-clause-owned g c = (record { 0 = 0 }, c.in_ok-machine.ensures.owned (record { 0 = 0 }) (omega arith))
