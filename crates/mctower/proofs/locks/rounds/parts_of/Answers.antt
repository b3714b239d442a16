use Rattle.std.proofs.{Common.{◌+◌, ◌∷◌, [], ◌∙◌, ap, length, sym}, lemmas.List.length-append}
use Rattle.{event_log.specs.declared.ids.CpuId.CpuId, mctower.{proofs.CountLemmas.one_part_more}}
use Rattle.mctower.proofs.locks.rounds.parts_of.Goals as goal

pub loop-number-preserved : goal.loop-number-preserved
loop-number-preserved g c =
    let inv = c.loop-number.invariant in
    let items = c.in_ok-push.ensures.items in
    let parts = c.loop-number.parts.items in
    let cpu : CpuId = record { 0 = c.loop-number.number } in
    record {
      long = ap length items ∙ length-append parts (c.part.result ∷ []) ∙ ap (λ n. n + 1) inv.long;
      ready = λ m acts outside.
          rw items
          (one_part_more _ _ _ parts c.part.result m (inv.ready m acts outside) (record {
            cpu = ap (λ (local : CpuId). local.0) c.part.ensures.cpu ∙ sym inv.long;
            rests = c.part.ensures.call;
            coupled = c.part.ensures.coupled m (acts cpu c.loop-number-test.true) (outside cpu c.loop-number-test.true) tt;
          }));
    }
