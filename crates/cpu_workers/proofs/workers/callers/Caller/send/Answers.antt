use Rattle.cpu_workers.proofs.Making.{made_send_closed, made_send}
use Rattle.cpu_workers.proofs.workers.callers.Caller.send.Goals as goal

pub returns-in-Closed : goal.returns-in-Closed
returns-in-Closed g c = made_send_closed _ _ c.args.to c.args.message.now c.make.result c.make.ensures c.in-Closed.is

pub returns-in_default : goal.returns-in_default
returns-in_default g c = made_send _ _ c.args.to c.args.message.now c.make.result c.make.ensures (λ closed. c.in_default.not-Closed closed)
