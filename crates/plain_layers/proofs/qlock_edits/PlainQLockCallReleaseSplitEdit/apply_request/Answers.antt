use Rattle.std.proofs.Common.{arith}
use Rattle.plain_layers.proofs.qlock_edits.PlainQLockCallReleaseSplitEdit.apply_request.Goals as goal

pub returns-clause-block : goal.returns-clause-block
returns-clause-block g c = grind arith

pub returns-clause-answer : goal.returns-clause-answer
returns-clause-answer g c = grind arith
