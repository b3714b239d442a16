-- What was read is judged but for what the part holds.
use Rattle.tracer.{specs.Parts.held, proofs.PartLemmas.IsJudgedTo}
use Rattle.tracer.proofs.checking.check_input.Given as goal

abbrev pub invariant-loop : goal.invariant-loop
invariant-loop g l = IsJudgedTo (g.R.Read.remaining l.initial.input) (g.R.Read.remaining l.input) l.judge (held l.part)
