use Rattle.cpu.proofs.Wakeups.Stuck.{quiet_is_stuck}
use Rattle.cpu.proofs.laws.quiet_is_stuck.Goals as goal

pub returns : goal.returns
returns c = quiet_is_stuck
