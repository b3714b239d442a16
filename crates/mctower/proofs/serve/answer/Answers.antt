use Rattle.mctower.proofs.serve.answer.Goals as goal

pub returns-in-Ok-clause-served : goal.returns-in-Ok-clause-served
returns-in-Ok-clause-served g c =
    rw (c.in-Ok-Run.ensures, c.in-Ok-Run.field-0-is, c.in-Ok.ensures) (rw c.as_slice.ensures.value at c.serve_run.ensures.runs)
