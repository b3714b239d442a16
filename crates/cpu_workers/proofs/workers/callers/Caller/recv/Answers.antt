use Rattle.cpu_workers.proofs.Making.{made_receive, got_none}
use Rattle.cpu_workers.proofs.workers.callers.Caller.recv.Goals as goal

pub returns-in-Got : goal.returns-in-Got
returns-in-Got g c = made_receive _ _ c.args.from c.in-Got.message c.make.result c.make.ensures c.in-Got.is

pub returns-in_default : goal.returns-in_default
returns-in_default g c = got_none _ _ c.args.from c.make.result c.make.ensures (λ m is. c.in_default.not-Got m is)
