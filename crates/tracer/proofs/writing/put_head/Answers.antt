use Rattle.tracer.proofs.writing.put_head.Goals as goal

pub returns-clause-out : goal.returns-clause-out
returns-clause-out g c = rw c.word.ensures at c.put_line.ensures.out
