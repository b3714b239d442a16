use Rattle.table_machine.specs.Layout.{AreFirst}
use Rattle.table_machine.proofs.open.first_words.Given as goal

abbrev pub invariant-loop-rank : goal.invariant-loop-rank
invariant-loop-rank g l = AreFirst g.K.TableWords.kind.opens l.locks l.rank l.words.items
