use Rattle.table_machine.proofs.{Asking.draw_asks, Holding.draw_reads}
use Rattle.table_machine.proofs.keys.Key.draw.Goals as goal

pub fetch_add-ticket-requires : goal.fetch_add-ticket-requires
fetch_add-ticket-requires g c = draw_asks g.E.SplitEdit.protocol g.K.TableWords.kind g.met.K.TableWords.lawful _ _ _ _ _ _ c.shared.invariant.0.words_are _ _ _
    c.self.invariant _ _ c.self.view_is c.shared.view_is c.requires.of c.args.lock c.requires.lock c.requires.outside c.word-word.ensures

pub returns-clause-adds : goal.returns-clause-adds
returns-clause-adds g c =
    (draw_reads g.E.SplitEdit.protocol _ _ _ _ _ _ _ _ c.args.lock c.args.self.now c.args.shared.now c.self.view_is c.self.invariant c.requires.of
    c.requires.lock
    c.requires.outside c.word-word.ensures c.fetch_add-ticket.ensures.2).1
