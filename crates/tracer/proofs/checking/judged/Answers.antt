use Rattle.std.proofs.{Common.{[], append-nil, arith}, lemmas.List.take_rest}
use Rattle.tracer.proofs.checking.judged.Goals as goal

pub returns : goal.returns
returns c = grind (arith, take_rest, append-nil, c.take_lines-taken.ensures.judged [])
