use Rattle.cpu.proofs.Tower.SectionViews.{tables_agree}
use Rattle.cpu.proofs.laws.tables_agree.Goals as goal

pub returns : goal.returns
returns c = tables_agree
