-- One direction each, by the two lemmas on all lawful logs.
use Rattle.event_log.{specs.WordsLog.MayFollow, proofs.Forms.{log_from_history, history_from_log}}
use Rattle.event_log.proofs.laws.log_orders_agree.Goals as goal

pub returns : goal.returns
returns g c log = (history_from_log MayFollow log, log_from_history MayFollow log)
