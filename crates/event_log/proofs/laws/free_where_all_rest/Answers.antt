use Rattle.event_log.proofs.Alone.{free_where_all_rest, all_rest_where_free}
use Rattle.event_log.proofs.laws.free_where_all_rest.Goals as goal

pub returns : goal.returns
returns g c = λ actions legal. (free_where_all_rest actions legal, λ free cpu known. all_rest_where_free actions legal free cpu)
