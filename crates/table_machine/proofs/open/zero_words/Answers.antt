use Rattle.{std.proofs.Common.rules, table_machine.proofs.Laying.zeros_more}
use Rattle.table_machine.proofs.open.zero_words.Goals as goal

pub loop-preserved : goal.loop-preserved
loop-preserved c = zeros_more c.loop.counter c.loop.words.items c.extend_from_slice.new.self.items c.loop.invariant (search rules)
