use Rattle.std.proofs.Common.{inr}
use Rattle.mctower.proofs.serve.serve_run.Goals as goal

pub returns-clause-runs : goal.returns-clause-runs
returns-clause-runs g c = inr (inr (c.in-Ok.bytes.items, c.in-Ok.ensures, rw c.as_slice.ensures.value at c.run_bytes.ensures.runs))
