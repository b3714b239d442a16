use Rattle.std.proofs.Common.{◌∙◌, ap, sym, map, length}
use Rattle.{event_log.specs.declared.ids.LockId.LockId, table_machine.{specs.Rule.fresh_home, proofs.{Dealing.opening_inv, Laying.laid_fits}}}
use Rattle.table_machine.proofs.open.opened_table.Goals as goal

pub new-requires : goal.new-requires
new-requires g c = opening_inv g.K.TableWords.kind g.E.SplitEdit.protocol c.args.cpus c.of.result.value.items g.met.K.TableWords.lawful c.as_slice.result.now
    c.in_ok-words.field-0.homes.items c.requires.cpus (rw (c.as_slice.ensures.value, c.of.ensures) c.in_ok-words.ensures.words)
    (c.in_ok-words.ensures.homes ∙ ap (λ v. map (λ (o : LockId × _). fresh_home o.1) v.items) (sym c.of.ensures))

pub furnished-requires-clause-laid : goal.furnished-requires-clause-laid
furnished-requires-clause-laid g c = laid_fits _ c.args.blocks.items _ _ c.as_slice.result.now _ _ c.in_ok-words.field-0.homes.items
    (ap (λ k. k.blocks.value.items) c.in-Ok.ensures.ok.5 ∙ ap (λ v. v.items) c.of.ensures)
    c.in-Ok.ensures.ok.0 (ap length c.as_slice.ensures.value ∙ c.in_ok-words.ensures.words.count) c.in-Ok.ensures.ok.1 c.in_ok-words.ensures.homes
    c.in_ok-words.ensures.small c.in_ok-words.ensures.row c.in_ok-words.ensures.ranks c.in_ok-words.ensures.locks

pub furnished-requires-clause-distinct : goal.furnished-requires-clause-distinct
furnished-requires-clause-distinct g c = rw (ap (λ k. k.blocks.value.items) c.in-Ok.ensures.ok.5 ∙ ap (λ v. v.items) c.of.ensures) c.requires.distinct
