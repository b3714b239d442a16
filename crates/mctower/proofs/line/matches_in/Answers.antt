use Rattle.std.proofs.Common.{◌∙◌}
use Rattle.mctower.proofs.LineLemmas.{not_taken}
use Rattle.mctower.proofs.line.matches_in.Goals as goal

pub returns : goal.returns
returns c = not_taken _ c.in-Err.error c.in-Err.ensures (λ memory. c.in-None.ensures (c.kind.ensures ∙ memory))
