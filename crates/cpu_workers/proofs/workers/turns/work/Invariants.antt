use Rattle.std.proofs.Common.{◌≤◌}
use Rattle.cpu_workers.{specs.Reports.most, proofs.Turning.Ran}
use Rattle.cpu_workers.proofs.workers.turns.work.Given as goal

abbrev pub invariant-loop : goal.invariant-loop
invariant-loop g l = record {
  ran : Ran (g.G.Gate.MayAnswer l.gate) l.turns l.initial.worker l.worker l.taken l.held;
  coupled : l.taken ≤ most;
}
