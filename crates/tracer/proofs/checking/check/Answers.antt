use Rattle.std.proofs.Common.{arith}
use Rattle.tracer.proofs.checking.check.Goals as goal

pub returns-clause-run : goal.returns-clause-run
returns-clause-run c = grind (arith, c.check_is_sound.ensures.sound)
