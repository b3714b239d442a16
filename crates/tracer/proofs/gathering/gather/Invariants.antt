use Rattle.std.proofs.Common.{◌-◌, ◌≤◌, vec_len, vec_capacity}
use Rattle.tracer.{proofs.GatherLemmas.Gathers, specs.Gather.{traces_in, entries_in}}
use Rattle.tracer.proofs.gathering.gather.Given as goal

abbrev pub invariant-loop-trace : goal.invariant-loop-trace
invariant-loop-trace l = Gathers (traces_in l.traces) l.total l.taken.items l.counts (entries_in l.order.items) × (l.total ≤ vec_capacity l.order)

abbrev pub decreases-loop-trace : goal.decreases-loop-trace
decreases-loop-trace l = l.total - vec_len l.order
