use Rattle.cpu.proofs.Wakeups.ReadyCalls.{calls_return_alone}
use Rattle.cpu.proofs.laws.calls_return_alone.Goals as goal

pub returns : goal.returns
returns c = calls_return_alone
