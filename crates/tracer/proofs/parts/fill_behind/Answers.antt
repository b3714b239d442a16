-- One read more.
use Rattle.{std.proofs.Common.arith, tracer.proofs.PartLemmas.{read_more, read_then}}
use Rattle.tracer.proofs.parts.fill_behind.Goals as goal

pub loop-filled-preserved : goal.loop-filled-preserved
loop-filled-preserved g c = grind (arith, read_more, read_then)
