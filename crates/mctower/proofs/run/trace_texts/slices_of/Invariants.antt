use Rattle.std.proofs.Common.{◌≡◌, map, take}
use Rattle.tracer.specs.Gather.{traces_in}
use Rattle.mctower.proofs.run.trace_texts.slices_of.Given as goal

abbrev pub invariant-loop-trace : goal.invariant-loop-trace
invariant-loop-trace l = traces_in l.all.items ≡ map (λ trace. trace.items) (take l.trace-index l.traces)
