use Rattle.std.proofs.Common.{◌≡◌, Option, Some, IfSome, arith, ◌∙◌}
use Rattle.cpu.proofs.{ListFacts.ListReads.shows_at, WholeSystems.PartsTold.item_at, OverLayer.SystemOverLayer.shown_by}
use Rattle.cpu.proofs.systems.System.place_at_home.Goals as goal

by_some : {X : Type 0} (P : X → Type 0) (o : Option X) → ((x : X) → o ≡ Some x → P x) → IfSome o P
by_some P o each = grind arith

pub returns-then-has : goal.returns-then-has
returns-then-has g c =
    let items = c.self.inside.cpus.items in
    let shown = shown_by g.I.CallLayer in
    let x = c.at-item.result in
    let at = item_at items c.deref-at-items.result.now c.loop-at.at-index x c.deref-at-items.ensures.value c.loop-at-test.true c.at-item.is in
    let is = c.self.invariant.each c.loop-at.at-index x at in
    rw (← c.self.view_is)
    (by_some _ c.place_at.result (λ place told.
    grind (arith, shows_at shown items c.loop-at.at-index x at, is.holds.1 ∙ is.number_is, c.place_at.ensures.observed place told)))
