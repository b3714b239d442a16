use Rattle.cpu_workers.proofs.Making.{made_close}
use Rattle.cpu_workers.proofs.workers.callers.Caller.close.Goals as goal

pub returns : goal.returns
returns g c = made_close _ _ c.args.buffer c.make.result c.make.ensures
