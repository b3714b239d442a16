use Rattle.{std.proofs.Common.{Some, None}, table_machine.proofs.{Asking.free_asks, Holding.{free_adds, free_key}}}
use Rattle.table_machine.proofs.keys.Key.free.Goals as goal

pub store-requires : goal.store-requires
store-requires g c = free_asks g.E.SplitEdit.protocol g.K.TableWords.kind g.met.K.TableWords.lawful _ _ _ _ _ _ c.shared.invariant.0.words_are _ _ _
    c.self.invariant _ _ c.self.view_is c.shared.view_is c.requires.of c.args.lock c.requires.lock c.requires.inside.0 c.args.block c.args.edit
    c.requires.inside.1 c.requires.edited c.requires.allowed _ _ (Some _) (cc) (cc) (cc) (cc)

pub fetch_add-requires : goal.fetch_add-requires
fetch_add-requires g c = free_asks g.E.SplitEdit.protocol g.K.TableWords.kind g.met.K.TableWords.lawful _ _ _ _ _ _ c.shared.invariant.0.words_are _ _ _
    c.self.invariant _ _ c.self.view_is c.shared.view_is c.requires.of c.args.lock c.requires.lock c.requires.inside.0 c.args.block c.args.edit
    c.requires.inside.1 c.requires.edited c.requires.allowed _ _ None (cc) (cc) (cc) (cc)

pub invariant_of-self : goal.invariant_of-self
invariant_of-self g c
    = search (free_key g.E.SplitEdit.protocol c.self.inside.cpu c.self.inside.ticket c.self.inside.token.table_id c.self.inside.token.me c.args.lock
    c.requires.inside.0 c.args.block c.args.edit c.args.self.now c.self.view_is c.self.invariant c.requires.inside.1)

pub invariant_of-self-in-None : goal.invariant_of-self-in-None
invariant_of-self-in-None g c
    = search (free_key g.E.SplitEdit.protocol c.self.inside.cpu c.self.inside.ticket c.self.inside.token.table_id c.self.inside.token.me c.args.lock
    c.requires.inside.0 c.args.block c.args.edit c.args.self.now c.self.view_is c.self.invariant c.requires.inside.1)

pub returns-in-Some-clause-adds : goal.returns-in-Some-clause-adds
returns-in-Some-clause-adds g c
    = search (free_adds g.E.SplitEdit.protocol c.self.inside.cpu c.self.inside.ticket c.self.inside.token.table_id c.self.inside.token.me c.args.lock
    c.requires.inside.0 c.args.block c.args.edit c.args.self.now c.self.view_is c.self.invariant c.requires.inside.1)

pub returns-in-None-clause-adds : goal.returns-in-None-clause-adds
returns-in-None-clause-adds g c
    = search (free_adds g.E.SplitEdit.protocol c.self.inside.cpu c.self.inside.ticket c.self.inside.token.table_id c.self.inside.token.me c.args.lock
    c.requires.inside.0 c.args.block c.args.edit c.args.self.now c.self.view_is c.self.invariant c.requires.inside.1)
