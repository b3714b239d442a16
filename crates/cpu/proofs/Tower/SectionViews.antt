-- The layers' sections are the table's: of every section on every block.
use Rattle.std.proofs.Common.{◌≡◌, arith}
use Rattle.{thread_blocks.proofs.Distinct.without_none, cpu.specs.{Table.Edits.edited, Tower.Views.{TablesAgree, TowerBlock, TowerName, name_of, tower, view}}}
use Rattle.layer_traits.specs.declared.queue_edits.QueueBlock.TheVariants as block
use Rattle.layer_traits.specs.declared.queue_edits.QueueEdit.TheVariants as queue

edits : (e : TowerName) (x : TowerBlock) → view (tower.edited e x) ≡ edited (name_of e) (view x)
edits e x = grind (arith, without_none)

pub tables_agree : TablesAgree
tables_agree = record { names = λ n. grind arith; codes = λ e. grind arith; edits = edits; answers = λ e x. grind arith }
