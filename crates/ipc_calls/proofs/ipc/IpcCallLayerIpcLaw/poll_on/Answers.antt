use Rattle.std.proofs.Common.{◌<◌, sym}
use Rattle.{layer_traits.specs.Polling.PollRuns.once, ipc_calls.proofs.CallRuns.{ran_over, bad_number_refused}}
use Rattle.ipc_calls.proofs.ipc.IpcCallLayerIpcLaw.poll_on.Goals as goal

-- a number that is no buffer's is rejected
pub returns-then-buffer-self-clause-polled_on : goal.returns-then-buffer-self-clause-polled_on
returns-then-buffer-self-clause-polled_on g c =
    once (bad_number_refused g.B.CallLayer c.args.self.now c.args.t c.args.call.now c.args.self.now c.args.m.now
    (rw (c.requires.coupled.1.count_is, sym c.buffer.ensures) c.if-buffer-self.true) c.requires.coupled)

-- any other call is the buffers'
pub returns-clause-polled_on : goal.returns-clause-polled_on
returns-clause-polled_on g c =
    let within : c.buffer.result.0 < c.args.self.now.buffers = c.if-buffer-self.false in
    ran_over g.B.CallLayer c.args.self.now c.args.t c.args.call.now c.args.self.now.lower c.args.m.now c.poll_on.result.actions
    c.poll_on.new.self c.poll_on.new.m
    c.poll_on.result.reply (rw (c.requires.coupled.1.count_is, sym c.buffer.ensures) within) c.requires.coupled.1 c.poll_on.ensures.polled_on
