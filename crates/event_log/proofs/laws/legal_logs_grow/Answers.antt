use Rattle.event_log.{specs.WordsLog.MayFollow, proofs.Forms.{log_push, log_last}}
use Rattle.event_log.proofs.laws.legal_logs_grow.Goals as goal

pub returns : goal.returns
returns g c log e = (log_last MayFollow log e, λ both. log_push MayFollow log e both.0 both.1)
