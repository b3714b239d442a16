use Rattle.{std.proofs.Common.arith, event_log.proofs.RingLemmas.window_before_pop}
use Rattle.event_log.proofs.rings.Ring.take_in.Goals as goal

-- the old items are the item at the start, then the new items
pub returns : goal.returns
returns g c = grind (arith, window_before_pop)
