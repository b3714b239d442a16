use Rattle.std.proofs.Common.{ap, ◌∙◌, map}
use Rattle.{event_log.specs.declared.ids.LockId.LockId, table_machine.proofs.Closing.{settles, all_blocks, close_gives}}
use Rattle.table_machine.proofs.shared.Shared.close.Goals as goal

pub returned-requires-clause-home : goal.returned-requires-clause-home
returned-requires-clause-home g c = all_blocks g.E.SplitEdit.protocol c.args.self c.args.keys.items _ c.self.inside.locks.items
    (settles g.E.SplitEdit.protocol g.K.TableWords.kind _ _ _ c.args.self _ c.args.keys.items _ _ _ c.self.view_is c.self.invariant.3
    c.gathered-seat.ensures.gathered c.requires.covers c.close_with.ensures.values.2)
    (c.self.invariant.0.locks_are ∙ ap (λ b. map (λ (o : LockId × _). o.0) b.start) c.self.view_is)

pub returns : goal.returns
returns g c = close_gives g.E.SplitEdit.protocol c.args.self c.args.keys.items _ c.self.inside.locks.items c.returned.result.items
    (settles g.E.SplitEdit.protocol g.K.TableWords.kind _ _ _ c.args.self _ c.args.keys.items _ _ _ c.self.view_is c.self.invariant.3
    c.gathered-seat.ensures.gathered c.requires.covers c.close_with.ensures.values.2)
    (c.self.invariant.0.locks_are ∙ ap (λ b. map (λ (o : LockId × _). o.0) b.start) c.self.view_is)
    c.returned.ensures.count c.returned.ensures.blocks
