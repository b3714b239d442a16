use Rattle.std.proofs.Common.{◌≡◌, [], sym, ap, ◌∙◌}
use Rattle.table_machine.proofs.{Stepping.notes_join, Meeting.has_words, Meeting.meets_here, Meeting.start_joined, Closing.absorb_reads, Closing.absorb_carries}
use Rattle.table_machine.proofs.shared.Shared.absorb.Goals as goal

pub join_seat-requires : goal.join_seat-requires
join_seat-requires g c =
    let table_is : c.self.inside.table.shared.table_id ≡ c.args.self.now.table = ap (λ b. b.table) c.self.view_is in
    let key_is : c.key.inside.token.table_id ≡ c.args.key.table = ap (λ d. d.table) c.key.view_is in
    let nothing : c.key.inside.token.me.1 ≡ [] = absorb_carries g.E.SplitEdit.protocol c.key.inside.cpu c.key.inside.ticket c.key.inside.token.table_id
    c.key.inside.token.me c.args.key c.key.view_is c.key.invariant c.requires.over.outside in (
      (cc),
      (cc),
      (cc),
      has_words _ _ _ _ _ c.self.invariant.0,
      notes_join g.K.TableWords.kind g.E.SplitEdit.protocol _ _ _ _ _ _,
    )

pub load-requires : goal.load-requires
load-requires g c =
    let table_is : c.self.inside.table.shared.table_id ≡ c.args.self.now.table = ap (λ b. b.table) c.self.view_is in
    let started : c.args.seat.now.me.0.start ≡ c.self.inside.table.shared.key.blocks.value.items
    = c.requires.start ∙ sym (ap (λ b. b.start) c.self.view_is) in (
      (cc),
      has_words _ _ _ _ _ c.self.invariant.0,
      meets_here g.E.SplitEdit.protocol g.K.TableWords.kind _ _ _ _ _ (search (start_joined, started)),
    )

pub returns-clause-gathered : goal.returns-clause-gathered
returns-clause-gathered g c = search (absorb_reads g.E.SplitEdit.protocol c.args.self.now.start c.key.inside.cpu c.key.inside.ticket c.key.inside.token.table_id
    c.args.seat.now.me c.key.inside.token.me c.args.key c.key.view_is c.key.invariant c.requires.over.outside)
