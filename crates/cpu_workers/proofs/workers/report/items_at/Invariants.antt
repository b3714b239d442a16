use Rattle.std.proofs.Common.{◌≡◌, drop}
use Rattle.layer_traits.specs.Protocols.OneLock.{opened}
use Rattle.cpu_workers.proofs.workers.report.items_at.Given as goal

abbrev pub invariant-loop-i : goal.invariant-loop-i
invariant-loop-i l = record { left : opened l.blocks l.lock ≡ opened (drop l.i l.blocks) l.lock }
