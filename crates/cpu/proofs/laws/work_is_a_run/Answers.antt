use Rattle.cpu.proofs.Wakeups.Merging.{work_is_a_run as merged_run}
use Rattle.cpu.proofs.laws.work_is_a_run.Goals as goal

pub returns : goal.returns
returns c = merged_run
