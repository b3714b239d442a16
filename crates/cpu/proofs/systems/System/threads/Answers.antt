use Rattle.std.proofs.Common.{arith}
use Rattle.cpu.proofs.systems.System.threads.Goals as goal

pub returns-clause-few : goal.returns-clause-few
returns-clause-few g c = let crowd = c.self.invariant.crowd in let count = c.self.invariant.sound.0 in omega (arith, crowd, count)
