use Rattle.mctower.proofs.LineLemmas.{words_parsed}
use Rattle.mctower.proofs.line.parse.Goals as goal

pub returns : goal.returns
returns c = words_parsed _ _ c.try_get_matches_from.result c.in_ok-program.ensures c.try_get_matches_from.ensures.matches c.try_get_matches_from.ensures.kinds
