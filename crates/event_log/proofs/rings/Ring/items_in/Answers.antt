use Rattle.std.proofs.{Common.{◌≡◌, ◌<◌, ◌++◌, ◌∷◌, [], length, get_or, take, sym, ap, ◌∙◌, arith}, lemmas.List.take_more}
use Rattle.event_log.{specs.declared.ids.TheConstants.CAPACITY, proofs.RingLemmas.{length-window, get_or-window}}
use Rattle.event_log.proofs.rings.Ring.items_in.Goals as goal

-- the item that was read is the next one of the queue
pub loop-i-preserved : goal.loop-i-preserved
loop-i-preserved g c =
    let q = c.self.inside in
    let items = c.args.self.now in
    let i = c.loop-i.i in
    let item = c.get.result in
    let within = length-window CAPACITY _ _ q.slots c.self.invariant.0 c.self.invariant.1 c.self.invariant.2 in
    let same_length = ap length c.self.view_is in
    let below : i < length items = omega arith in
    let is : item ≡ get_or items i item = c.get.ensures.value
    ∙ sym (get_or-window CAPACITY _ _ q.slots c.self.invariant.0 c.self.invariant.1 c.self.invariant.2 i item c.loop-i-test.true)
    ∙ ap (λ xs. get_or xs i item) c.self.view_is in
    record {
      read = c.push.ensures.items ∙ ap (λ xs. xs ++ item ∷ []) c.loop-i.invariant.read
          ∙ sym (take_more items i item below ∙ ap (λ x. take i items ++ x ∷ []) (sym is));
      ticks = omega arith;
    }
