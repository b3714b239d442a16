use Rattle.std.proofs.Common.{sym, ◌∙◌}
use Rattle.tracer.proofs.CutLemmas.{chunk_inside, chunk_passed}
use Rattle.tracer.proofs.pieces.chunk_with.Goals as goal

pub loop-chunk-preserved : goal.loop-chunk-preserved
loop-chunk-preserved c =
    let text = c.args.text.now in
    let start = c.loop-chunk.start in
    let chunk = c.in-Some.chunk.now in
    let invariant = c.loop-chunk.invariant in
    record {
      inside = chunk_inside text start 16 chunk invariant.inside c.in-Some.ensures.cases;
      before = chunk_passed c.args.at text start 16 chunk invariant.inside c.in-Some.ensures.cases (sym c.holds.ensures ∙ c.if-holds.false) invariant.before;
    }
