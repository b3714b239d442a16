use Rattle.std.proofs.Common.{arith}
use Rattle.scheduler.proofs.owns.join_ready.Goals as goal

pub join-requires-clause-known : goal.join-requires-clause-known
join-requires-clause-known c = grind (arith, c.requires.1 c.in-Some.t)
