use Rattle.std.proofs.Common.{arith}
use Rattle.cpu.proofs.laws.runs_of_three.Goals as goal

pub returns : goal.returns
returns c = grind arith
