use Rattle.std.proofs.Common.{◌≡◌, take}
use Rattle.{tracer.specs.Gather.traces_in, cpu.specs.Claims.traces_of}
use Rattle.mctower.proofs.run.traces.Given as goal

abbrev pub invariant-loop-cpu : goal.invariant-loop-cpu
invariant-loop-cpu g l = traces_in l.all.items ≡ take l.cpu (traces_of l.system)
