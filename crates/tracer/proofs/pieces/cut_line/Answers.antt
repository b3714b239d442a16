use Rattle.std.proofs.{Common.{◌+◌, arith}, lemmas.{Bool.eq-eqb, List.take_rest}}
use Rattle.tracer.proofs.CutLemmas.{cut_at, cut_none, line_at}
use Rattle.tracer.proofs.pieces.cut_line.Goals as goal

pub returns-then-text-end-eq10-clause-some : goal.returns-then-text-end-eq10-clause-some
returns-then-text-end-eq10-clause-some c =
    let text = c.args.text.now in
    let end = c.loop-end.end in
    rw (take_rest text (end + 1)) (cut_at 10 text end c.loop-end-test.true c.loop-end.invariant (eq-eqb _ _ c.if-text-end-eq10.true))

pub returns-then-text-end-eq10-clause-line : goal.returns-then-text-end-eq10-clause-line
returns-then-text-end-eq10-clause-line c =
    let text = c.args.text.now in
    let end = c.loop-end.end in
    rw (take_rest text (end + 1)) (line_at text end c.loop-end-test.true c.loop-end.invariant c.if-text-end-eq10.true)

pub returns-clause-none : goal.returns-clause-none
returns-clause-none c = cut_none 10 c.args.text.now (λ k inside. c.loop-end.invariant k (let past = c.loop-end-test.false in omega arith))

pub returns-clause-lacks : goal.returns-clause-lacks
returns-clause-lacks c = λ k inside. c.loop-end.invariant k (let past = c.loop-end-test.false in omega arith)
