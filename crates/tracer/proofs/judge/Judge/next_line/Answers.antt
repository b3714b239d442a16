use Rattle.tracer.proofs.CommonLemmas.{line_is_there}
use Rattle.tracer.proofs.judge.Judge.next_line.Goals as goal

pub unwrap-requires : goal.unwrap-requires
unwrap-requires c = line_is_there _ c.args.text.now c.requires c.cut_line.ensures.lacks
