use Rattle.{layer_traits.proofs.Seen.words_legal, spinlock.{specs.Laws.LineLaws.rests_outside, proofs.LineLemmas.{event_adds, draws_spot}}}
use Rattle.spinlock.proofs.fifo_lock.AnyFifoLockUsesTickets.join.Goals as goal

pub draw-requires-clause-outside : goal.draw-requires-clause-outside
draw-requires-clause-outside g c = (rests_outside (g.W.Words.history c.args.self.now) c.args.cpu).1 c.requires.rests

pub returns-clause-adds : goal.returns-clause-adds
returns-clause-adds g c = event_adds c.draw.ensures.adds

pub returns-clause-ticket : goal.returns-clause-ticket
returns-clause-ticket g c =
    let n = c.draw.new.self in
    draws_spot c.draw.ensures.adds (words_legal (g.W.Edit.SplitEdit.protocol.allowed (g.W.Words.opening n)) (g.W.Words.history n)
    (g.met.W.Words.legal n c.args.cpu (c.draw.ensures.acts c.args.cpu c.requires.cpu)))
