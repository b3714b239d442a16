use Rattle.std.{proofs.Common.refl, specs.Fmt.digits}
use Rattle.mctower.proofs.tell.refusal_lines.expected.Goals as goal

pub returns-in-Cpus : goal.returns-in-Cpus
unfolding digits
returns-in-Cpus c = rw c.in-Cpus.is refl

pub returns-in-Times : goal.returns-in-Times
unfolding digits
returns-in-Times c = rw c.in-Times.is refl

pub returns-in-Turns : goal.returns-in-Turns
unfolding digits
returns-in-Turns c = rw c.in-Turns.is refl
