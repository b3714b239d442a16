use Rattle.table_machine.proofs.{Stepping.notes_split, Asking.one_table, Meeting.has_words}
use Rattle.table_machine.proofs.keys.Key.notes.Goals as goal

pub split_seat-requires : goal.split_seat-requires
split_seat-requires g c =
    let of = one_table c.self.inside.token.table_id c.shared.inside.table.shared.table_id _ _ _ c.self.inside.token.me c.args.self.now c.args.shared.now
    c.self.view_is c.shared.view_is c.requires in
    (of.0, has_words _ _ _ _ _ c.shared.invariant.0, notes_split g.K.TableWords.kind g.E.SplitEdit.protocol _ _ _ _)
