use Rattle.{std.proofs.Common.{Some, ap, arith, sym}, plain_layers.proofs.TableLemmas.{slot_edited, slot_reads, slot_within}}
use Rattle.plain_layers.proofs.lock_table.edit_at.Goals as goal

pub index_mut-requires : goal.index_mut-requires
index_mut-requires g c =
    let within = slot_within c.args.lock c.slot_of-slot.result c.args.blocks.now.items (rw (← c.deref.ensures.value) c.slot_of-slot.ensures) in
    omega (arith, within, c.args.blocks.now.ok.0)

pub returns-clause-block : goal.returns-clause-block
returns-clause-block g c =
    slot_edited c.args.lock (g.E.SplitEdit.protocol.edited (g.E.SplitEdit.abstract_call c.args.handed.now c.args.payload.now)) c.slot_of-slot.result
    c.args.blocks.now.items _ _ (rw (← c.deref.ensures.value) c.slot_of-slot.ensures) c.index_mut.ensures.value c.apply_request.ensures.block

pub returns-clause-answer : goal.returns-clause-answer
returns-clause-answer g c =
    let tells = slot_reads c.args.lock c.slot_of-slot.result c.args.blocks.now.items _ (rw (← c.deref.ensures.value) c.slot_of-slot.ensures)
    c.index_mut.ensures.value in
    rw tells.1 (ap Some (sym c.apply_request.ensures.answer))
