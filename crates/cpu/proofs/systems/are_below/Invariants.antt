use Rattle.cpu.proofs.ListFacts.GreatestCpu.{IsGreatest}
use Rattle.cpu.proofs.systems.are_below.Given as goal

-- no number so far is greater, and it is 0 or one of them
abbrev pub invariant-loop-cpu : goal.invariant-loop-cpu
invariant-loop-cpu l = IsGreatest l.most l.cpu-index l.cpus
