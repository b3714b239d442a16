use Rattle.std.proofs.Common.{◌<◌, sym}
use Rattle.ipc_calls.proofs.CallRuns.{polled_over, bad_number_refused}
use Rattle.ipc_calls.proofs.ipc.IpcCallLayerIpcLaw.poll_kind.Goals as goal

-- a number that is no buffer's is rejected
pub returns-then-buffer-self : goal.returns-then-buffer-self
returns-then-buffer-self g c =
    bad_number_refused g.B.CallLayer c.args.self.now c.args.t c.args.call.now c.args.self.now c.args.m.now
    (rw (c.requires.coupled.1.count_is, sym c.buffer-buffer.ensures) c.if-buffer-self.true) c.requires.coupled

-- any other call is the buffers'
pub returns : goal.returns
returns g c =
    let within : c.buffer-buffer.result.0 < c.args.self.now.buffers = c.if-buffer-self.false in
    polled_over g.B.CallLayer c.args.self.now c.args.t c.args.call.now c.args.self.now.lower c.poll_kind.new.self c.args.m.now c.poll_kind.new.m
    c.poll_kind.result (rw (c.requires.coupled.1.count_is, sym c.buffer-buffer.ensures) within) c.requires.coupled.1 c.poll_kind.ensures
