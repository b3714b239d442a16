use Rattle.cpu.proofs.Wakeups.ReachedStates.{systems_lose_no_wake_up}
use Rattle.cpu.proofs.laws.systems_lose_no_wake_up.Goals as goal

pub returns : goal.returns
returns c = systems_lose_no_wake_up
