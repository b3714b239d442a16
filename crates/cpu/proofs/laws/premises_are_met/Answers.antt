use Rattle.cpu.proofs.Wakeups.PremisesMet.{premises_are_met}
use Rattle.cpu.proofs.laws.premises_are_met.Goals as goal

pub returns : goal.returns
returns c = premises_are_met
