use Rattle.spinlock.{specs.Laws.LineLaws.{grants_legal, rests_outside_grants}, proofs.LineLemmas.{grant_adds, takes_spot}}
use Rattle.spinlock.proofs.fifo_lock.AnyFifoLockUsesGrants.join.Goals as goal

pub take-requires-clause-outside : goal.take-requires-clause-outside
take-requires-clause-outside g c = (rests_outside_grants (g.W.GrantWords.history c.args.self.now) c.args.cpu).1 c.requires.rests

pub returns-clause-adds : goal.returns-clause-adds
returns-clause-adds g c = grant_adds c.take.ensures.adds

pub returns-clause-ticket : goal.returns-clause-ticket
returns-clause-ticket g c =
    let n = c.take.new.self in
    takes_spot c.take.ensures.adds (grants_legal (g.W.Edit.SplitEdit.protocol.allowed (g.W.GrantWords.opening n)) (g.W.GrantWords.history n)
    (g.met.W.GrantWords.legal n c.args.cpu (c.take.ensures.acts c.args.cpu c.requires.cpu)))
