use Rattle.std.proofs.Common.{◌≡◌, replicate}
use Rattle.table_machine.specs.Layout.{word_count}
use Rattle.table_machine.proofs.open.zero_words.Given as goal

abbrev pub invariant-loop : goal.invariant-loop
invariant-loop l = l.words.items ≡ replicate (word_count l.counter) 0
