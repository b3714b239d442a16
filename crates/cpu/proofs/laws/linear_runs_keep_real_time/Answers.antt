use Rattle.cpu.proofs.WholeSystems.RealTime.{real_time}
use Rattle.cpu.proofs.laws.linear_runs_keep_real_time.Goals as goal

pub returns : goal.returns
returns c = real_time
