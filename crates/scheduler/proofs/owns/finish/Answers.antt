use Rattle.std.proofs.Common.{arith}
use Rattle.scheduler.proofs.owns.finish.Goals as goal

pub push-requires-clause-known : goal.push-requires-clause-known
push-requires-clause-known c = grind (arith, c.requires c.in-Some.t)

pub push-requires-clause-new : goal.push-requires-clause-new
push-requires-clause-new c = grind (arith, c.requires c.in-Some.t)
