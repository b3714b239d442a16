use Rattle.std.proofs.{Common.{◌∷◌, [], length, ap, ◌∙◌, arith}, lemmas.List.length-append}
use Rattle.cpu.proofs.WholeSystems.PlanGuests.{tables_more}
use Rattle.cpu.proofs.systems.plans.tables_of.Goals as goal

pub loop-number-preserved : goal.loop-number-preserved
loop-number-preserved c =
    let inv = c.loop-number.invariant in
    let grown = rw c.unwrap.ensures at c.push.ensures.items in
    let long = ap (λ l. length l) grown ∙ length-append c.loop-number.tables.items (c.in_ok-guests.guests ∷ []) in
    grind (arith, grown, tables_more, inv, long)
