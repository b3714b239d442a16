use Rattle.cpu.proofs.Wakeups.CpusByTable.{cpus_lose_no_wake_up}
use Rattle.cpu.proofs.laws.cpus_lose_no_wake_up.Goals as goal

pub returns : goal.returns
returns c = cpus_lose_no_wake_up
