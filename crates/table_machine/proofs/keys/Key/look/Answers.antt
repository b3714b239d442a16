use Rattle.std.proofs.Common.{ap, sym, ◌∙◌}
use Rattle.table_machine.{specs.Layout.{rank_of, word_at}, proofs.{Asking.look_asks, Holding.{look_missed, look_hit}}}
use Rattle.table_machine.proofs.keys.Key.look.Goals as goal

pub load-found-requires : goal.load-found-requires
load-found-requires g c = look_asks g.E.SplitEdit.protocol g.K.TableWords.kind g.met.K.TableWords.lawful _ _ _ _ _ _ c.shared.invariant.0.words_are _ _ _
    c.self.invariant _ _ c.self.view_is c.shared.view_is c.requires.of c.args.lock c.requires.lock c.args.ticket c.requires.waiting
    (c.word-word.ensures ∙ ap (λ w. word_at (rank_of c.args.shared.now.start c.args.lock) w) c.looks_at.ensures)

pub returns-then-not-serves-clause-adds : goal.returns-then-not-serves-clause-adds
returns-then-not-serves-clause-adds g c =
    let missed = look_missed g.E.SplitEdit.protocol g.K.TableWords.kind _ _ _ _ _ _ c.args.lock c.args.ticket c.self.invariant c.args.self.now c.self.view_is
    c.requires.waiting (sym c.serves.ensures ∙ c.if-not-serves.true) c.load-found.ensures.2 in
    (missed.read, missed.adds)

pub returns-clause-adds : goal.returns-clause-adds
returns-clause-adds g c =
    let hit = look_hit g.E.SplitEdit.protocol g.K.TableWords.kind _ _ _ _ _ _ c.args.lock c.args.ticket c.self.invariant c.args.self.now c.args.shared.now _
    c.self.view_is c.requires.of c.requires.waiting (sym c.serves.ensures ∙ c.if-not-serves.false) c.rank-rank.ensures.rank c.load-found.ensures.2 in
    (hit.read, hit.adds)
