use Rattle.std.proofs.{Common.{◌≡◌, ℕ, List, ◌++◌, take, sym, ap, ◌∙◌, append_assoc}, lemmas.List.take-append-drop}
use Rattle.tracer.proofs.SinkLemmas.{appends_then}
use Rattle.tracer.proofs.sinks.Sink.put.Goals as goal

-- what is done, and the bytes that this write took
pub loop-rest-preserved : goal.loop-rest-preserved
loop-rest-preserved g c =
    let so_far = c.loop-rest.invariant.out in
    let n = c.in-Ok.n in
    let rest = c.loop-rest.rest.now in
    let cut : take n rest ++ c.split_at.result.1.now ≡ rest = rw c.split_at.ensures.back (take-append-drop n rest) in
    record {
      live = c.loop-rest.invariant.live;
      held = c.loop-rest.invariant.held;
      out = (
        so_far.0 ++ take n rest,
        so_far.1 ∙ ap (λ (t : List ℕ). so_far.0 ++ t) (sym cut)
            ∙ sym (append_assoc so_far.0 (take n rest) c.split_at.result.1.now),
        appends_then _ _ _ so_far.0 (take n rest) so_far.2 c.in-Ok.ensures.bytes,
      );
    }
