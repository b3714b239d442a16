use Rattle.event_log.proofs.OneFree.{freed_once}
use Rattle.event_log.proofs.laws.freed_once_meanwhile.Goals as goal

pub returns : goal.returns
returns g c = freed_once
