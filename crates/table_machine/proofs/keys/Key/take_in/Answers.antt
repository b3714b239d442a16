use Rattle.std.proofs.Common.{sym, ap, ◌∙◌}
use Rattle.table_machine.proofs.{Stepping.notes_join, Asking.one_table, Meeting.{has_words, meet_asks, meet_reads}}
use Rattle.table_machine.proofs.keys.Key.take_in.Goals as goal

pub join_seat-requires : goal.join_seat-requires
join_seat-requires g c =
    let of = one_table c.self.inside.token.table_id c.shared.inside.table.shared.table_id _ _ _ c.self.inside.token.me c.args.self.now c.args.shared.now
    c.self.view_is c.shared.view_is c.requires.of in (
      of.0,
      c.requires.table ∙ (ap (λ d. d.table) (sym c.self.view_is) ∙ of.0),
      c.requires.notes.0,
      has_words _ _ _ _ _ c.shared.invariant.0,
      notes_join g.K.TableWords.kind g.E.SplitEdit.protocol _ _ _ _ _ _,
    )

pub load-requires : goal.load-requires
load-requires g c =
    let of = one_table c.self.inside.token.table_id c.shared.inside.table.shared.table_id _ _ _ c.self.inside.token.me c.args.self.now c.args.shared.now
    c.self.view_is c.shared.view_is c.requires.of in
    meet_asks g.E.SplitEdit.protocol g.K.TableWords.kind c.self.inside.token.table_id _ _ _ _ _ _ _ c.self.inside.token.me c.join_seat.new.seat.me
    c.args.notes.me.0 c.shared.invariant.0 of c.join_seat.ensures.0 c.join_seat.ensures.2

pub invariant_of-self : goal.invariant_of-self
invariant_of-self g c = (meet_reads g.E.SplitEdit.protocol _ _ _ _ _ _ c.args.notes.me.0 _ _ c.args.self.now c.self.view_is c.self.invariant c.requires.notes.1
    c.join_seat.ensures.2 c.load.ensures.2).key

pub returns-clause-grows : goal.returns-clause-grows
returns-clause-grows g c =
    (meet_reads g.E.SplitEdit.protocol _ _ _ _ _ _ c.args.notes.me.0 _ _ c.args.self.now c.self.view_is c.self.invariant c.requires.notes.1
    c.join_seat.ensures.2
    c.load.ensures.2).grows
