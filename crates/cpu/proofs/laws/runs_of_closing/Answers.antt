use Rattle.std.proofs.Common.{refl}
use Rattle.cpu.proofs.laws.runs_of_closing.Goals as goal

pub returns : goal.returns
returns c = record { woken = (refl, refl, refl); served = (refl, refl, refl); both_woken = (refl, refl, refl, refl); aside = (refl, refl) }
