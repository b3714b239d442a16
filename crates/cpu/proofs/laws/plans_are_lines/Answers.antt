use Rattle.cpu.proofs.Tower.Plans.{plans_are_lines}
use Rattle.cpu.proofs.laws.plans_are_lines.Goals as goal

pub returns : goal.returns
returns c = plans_are_lines
