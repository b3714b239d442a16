use Rattle.cpu.proofs.Tower.Polls.{halts_exactly}
use Rattle.cpu.proofs.laws.halts_exactly.Goals as goal

pub returns : goal.returns
returns c = halts_exactly
