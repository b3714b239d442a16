use Rattle.{std.proofs.Common.arith, mctower.proofs.LineLemmas.{number_taken, number_refused}}
use Rattle.mctower.proofs.line.number.Goals as goal

pub returns-then-n-most : goal.returns-then-n-most
returns-then-n-most c =
    let read = c.in-Ok.ensures.value.0 in
    number_taken _ _ _ c.args.text.now read.0.0 read.0.1 read.1 (omega arith) (omega arith)

pub returns-in-Err : goal.returns-in-Err
returns-in-Err c = number_refused _ _ c.args.text.now c.in-Err.ensures.value.0
