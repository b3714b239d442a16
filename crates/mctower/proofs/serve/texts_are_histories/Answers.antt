use Rattle.mctower.proofs.HistoryLemmas.{texts_are_histories as law}
use Rattle.mctower.proofs.serve.texts_are_histories.Goals as goal

pub returns : goal.returns
returns c = law
