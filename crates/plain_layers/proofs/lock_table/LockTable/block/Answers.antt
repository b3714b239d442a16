use Rattle.{std.proofs.Common.{arith, sym}, plain_layers.specs.Tables.opening_in}
use Rattle.plain_layers.{specs.Tables.sections_noted, proofs.TableLemmas.{block_is_there, slot_reads, slot_within}}
use Rattle.plain_layers.proofs.lock_table.LockTable.block.Goals as goal

pub slot_of-slot-requires : goal.slot_of-slot-requires
slot_of-slot-requires g c = rw c.deref.ensures.value (block_is_there g.E.SplitEdit.protocol (opening_in c.args.self.now) (sections_noted c.args.self.now) _
    c.requires.sound c.args.lock c.requires.lock)

pub index-requires : goal.index-requires
index-requires g c =
    let within = slot_within c.args.lock c.slot_of-slot.result c.args.self.now.blocks.items (rw (← c.deref.ensures.value) c.slot_of-slot.ensures) in
    omega (arith, within, c.args.self.now.blocks.ok.0)

pub returns : goal.returns
returns g c = sym (slot_reads c.args.lock c.slot_of-slot.result c.args.self.now.blocks.items c.index.result.now
    (rw (← c.deref.ensures.value) c.slot_of-slot.ensures) c.index.ensures).1
