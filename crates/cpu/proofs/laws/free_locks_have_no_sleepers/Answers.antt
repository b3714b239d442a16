use Rattle.cpu.proofs.Wakeups.ReachedStates.{free_locks_have_no_sleepers}
use Rattle.cpu.proofs.laws.free_locks_have_no_sleepers.Goals as goal

pub returns : goal.returns
returns c = free_locks_have_no_sleepers
