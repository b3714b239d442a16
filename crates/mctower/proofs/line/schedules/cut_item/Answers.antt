use Rattle.mctower.proofs.ScheduleLemmas.{first_piece, one_piece}
use Rattle.mctower.proofs.line.schedules.cut_item.Goals as goal

pub returns-in-Some-clause-pieces : goal.returns-in-Some-clause-pieces
returns-in-Some-clause-pieces c = first_piece _ c.in-Some.first c.in-Some.after c.in-Some.ensures.cases

pub returns-in-None-clause-pieces : goal.returns-in-None-clause-pieces
returns-in-None-clause-pieces c = one_piece _ c.in-None.ensures.cases
