use Rattle.event_log.proofs.Tickets.{legal_acts}
use Rattle.event_log.proofs.laws.tickets_tell_indices.Goals as goal

pub returns : goal.returns
returns g c = legal_acts _
