use Rattle.cpu_workers.proofs.Scheduled.{reports_are_runs as scheduled}
use Rattle.cpu_workers.proofs.laws.reports_are_runs.Goals as goal

pub returns : goal.returns
returns g c = scheduled (g.G.Gate.MayAnswer c.args.gate.now)
