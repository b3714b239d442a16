use Rattle.{std.proofs.Common.refl, layer_traits.specs.Polling.PollRuns.LookedOn}
use Rattle.fifo_buffer.proofs.fifo.FifoCallLayerBufferLaw.looks.Goals as goal

pub returns-then-taken-most-clause-looked_on : goal.returns-then-taken-most-clause-looked_on
returns-then-taken-most-clause-looked_on g c = LookedOn.more LookedOn.none c.if-look.ensures

-- of two consecutive polls of a lock the first has failed
pub returns-then-look-2-clause-looked_on : goal.returns-then-look-2-clause-looked_on
returns-then-look-2-clause-looked_on g c = LookedOn.more (LookedOn.more LookedOn.none c.if-look.ensures) c.if-look-2.ensures

-- a poll of a lock that did nothing changes nothing
pub returns-else-look-2-clause-looked_on : goal.returns-else-look-2-clause-looked_on
returns-else-look-2-clause-looked_on g c =
    let still = c.if-look-2.ensures.still refl in
    rw (still.0, still.1) (LookedOn.more LookedOn.none c.if-look.ensures)

pub returns-else-look-clause-looked_on : goal.returns-else-look-clause-looked_on
returns-else-look-clause-looked_on g c = let still = c.if-look.ensures.still refl in rw (still.0, still.1) LookedOn.none
