use Rattle.cpu_workers.proofs.Lasting.{workers_lose}
use Rattle.cpu_workers.proofs.laws.workers_lose_no_wake_up.Goals as goal

pub returns : goal.returns
returns c = workers_lose
