use Rattle.std.proofs.Common.{arith}
use Rattle.cpu.proofs.systems.System.rests.Goals as goal

pub returns-then-not-are_quiescent : goal.returns-then-not-are_quiescent
returns-then-not-are_quiescent g c = grind arith

pub returns : goal.returns
returns g c = grind arith
