use Rattle.ipc_calls.proofs.CallRuns.{looks_over}
use Rattle.ipc_calls.proofs.ipc.IpcCallLayerIpcLaw.looks.Goals as goal

pub returns-clause-looked_on : goal.returns-clause-looked_on
returns-clause-looked_on g c = (looks_over g.B.CallLayer c.args.self.now c.requires.coupled.1 c.looks.ensures.looked_on).1
