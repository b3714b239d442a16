use Rattle.{std.proofs.Common.arith, scheduler.proofs.owns.settle.Goals.{then-is_some, else-is_some}}
use Rattle.scheduler.proofs.owns.settle.Goals as goal

pub join-requires-clause-known : goal.join-requires-clause-known
join-requires-clause-known c = (c.requires c.in-Some.t c.in-Some.is).0

pub join-requires-clause-new : goal.join-requires-clause-new
join-requires-clause-new c = grind (arith, c.requires c.in-Some.t)
