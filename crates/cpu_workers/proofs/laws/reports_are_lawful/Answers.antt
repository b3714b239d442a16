use Rattle.cpu_workers.proofs.Reporting.{report_is_lawful}
use Rattle.cpu_workers.proofs.laws.reports_are_lawful.Goals as goal

pub returns : goal.returns
returns g c = report_is_lawful (g.G.Gate.MayAnswer c.args.gate.now)
