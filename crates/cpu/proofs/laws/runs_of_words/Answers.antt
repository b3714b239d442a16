use Rattle.std.proofs.Common.{refl}
use Rattle.cpu.proofs.laws.runs_of_words.Goals as goal

pub returns : goal.returns
returns c = record { served = (refl, refl, refl, refl) }
