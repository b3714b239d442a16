use Rattle.layer_traits.proofs.call_layers.CallLayer.poll.Goals as goal

pub returns-in-None : goal.returns-in-None
returns-in-None g c = rw c.in-None.is at c.poll_kind.ensures

pub returns-in-Some : goal.returns-in-Some
returns-in-Some g c = rw (c.whole_reply.ensures, c.effect_here.ensures) (rw c.in-Some.is at c.poll_kind.ensures)
