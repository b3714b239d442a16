use Rattle.{std.proofs.Common.arith, tracer.proofs.TallyLemmas.{entered, entered_nowhere}}
use Rattle.tracer.proofs.entering.enter_among.Goals as goal

pub returns-then-b-buffers : goal.returns-then-b-buffers
returns-then-b-buffers c = grind (arith, entered_nowhere)

pub returns : goal.returns
returns c = grind (arith, entered)
