use Rattle.table_machine.proofs.Laying.{deal_asks, deal_leaves}
use Rattle.table_machine.proofs.shared.Shared.deal.Goals as goal

pub split_seat-token-requires : goal.split_seat-token-requires
split_seat-token-requires g c =
    deal_asks g.K.TableWords.kind g.E.SplitEdit.protocol _ _ _ _ _ _ _ _ c.args.cpu c.args.self.now c.self.invariant.0 c.self.view_is
    c.requires.cpu c.requires.table c.requires.dealer

pub returns-clause-dealer : goal.returns-clause-dealer
returns-clause-dealer g c
    = deal_leaves g.K.TableWords.kind g.E.SplitEdit.protocol c.args.dealer.now.me _ c.args.cpu c.args.self.now c.requires.cpu c.requires.dealer
    c.split_seat-token.ensures.2
