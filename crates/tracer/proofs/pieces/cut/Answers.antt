use Rattle.std.proofs.{Common.{◌+◌, arith}, lemmas.{Bool.eq-eqb, List.take_rest}}
use Rattle.tracer.proofs.CutLemmas.{cut_at, cut_none}
use Rattle.tracer.proofs.pieces.cut.Goals as goal

pub returns-then-byte-at-clause-some : goal.returns-then-byte-at-clause-some
returns-then-byte-at-clause-some c =
    let text = c.args.text.now in
    let i = c.loop-i.i in
    rw (take_rest text (i + 1)) (cut_at c.args.at text i c.loop-i-test.true c.loop-i.invariant (eq-eqb _ _ c.if-byte-at.true))

pub returns-clause-none : goal.returns-clause-none
returns-clause-none c = cut_none c.args.at c.args.text.now (λ k inside. c.loop-i.invariant k (omega arith))
