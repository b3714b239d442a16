use Rattle.{std.proofs.Common.arith, event_log.proofs.RingLemmas.{length-window, window_after_push}}
use Rattle.event_log.proofs.rings.Ring.put_in.Goals as goal

-- the write is after the last item, since the queue has room
pub returns-clause-items : goal.returns-clause-items
returns-clause-items g c = grind (arith, length-window, window_after_push)
