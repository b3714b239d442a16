use Rattle.event_log.proofs.GrantWords.{legal_grants}
use Rattle.event_log.proofs.laws.grants_tell_indices.Goals as goal

pub returns : goal.returns
returns g c = legal_grants _
