use Rattle.ipc_calls.proofs.CallRuns.{looked_over}
use Rattle.ipc_calls.proofs.ipc.IpcCallLayerIpcLaw.look.Goals as goal

pub returns : goal.returns
returns g c =
    looked_over g.B.CallLayer c.args.self.now c.args.self.now.lower c.look.new.self c.args.m.now c.look.new.m
    c.look.result c.requires.coupled.1 c.look.ensures
