use Rattle.cpu_workers.proofs.Lasting.{stops_say}
use Rattle.cpu_workers.proofs.laws.stop_reasons_hold.Goals as goal

pub returns : goal.returns
returns c = stops_say
