use Rattle.std.proofs.Common.{arith}
use Rattle.cpu.proofs.laws.runs_of_two.Goals as goal

pub returns : goal.returns
returns c = grind arith
