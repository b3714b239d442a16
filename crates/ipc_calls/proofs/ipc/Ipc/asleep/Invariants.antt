use Rattle.std.proofs.Common.{◌≡◌, ◌<◌, None}
use Rattle.{event_log.specs.declared.ids.BufId.BufId, ipc_calls.specs.Parts.waits_read}
use Rattle.ipc_calls.proofs.ipc.Ipc.asleep.Given as goal

-- the thread is reported at none of the buffers before this one
abbrev pub invariant-loop-number : goal.invariant-loop-number
invariant-loop-number g l = (b : BufId) → b.0 < l.number → waits_read l.t (g.B.OwnedBuffers.buffer_at l.m b)
    (g.B.OwnedBuffers.buffer_with l.self.lower b) ≡ None
