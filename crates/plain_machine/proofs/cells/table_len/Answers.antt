use Rattle.std.proofs.{Common.{◌<◌, ◌≤◌, All, take, get_or, ap, subst, ◌∙◌, arith}, lemmas.List.{take_all, Elements.{All-more, All-weaker}}}
use Rattle.{event_log.specs.Locks.lock_number, plain_machine.proofs.cells.table_len.Goals.{then-len-end, else-len-end}}
use Rattle.plain_machine.proofs.cells.table_len.Goals as goal

pub loop-entry-preserved : goal.loop-entry-preserved
loop-entry-preserved g c =
    let xs = c.args.blocks.now.items in
    let n = c.if-len-end.len in
    let d = c.entry-item.result in
    let grows : c.loop-entry.len ≤ n = elim c.if-len-end.branch [ then-len-end w ↦ omega arith | else-len-end w ↦ omega arith ] in
    let reaches : c.number-end.result < n = elim c.if-len-end.branch [ then-len-end w ↦ omega arith | else-len-end w ↦ omega arith ] in
    All-more (λ entry. lock_number entry.0 < n) xs c.loop-entry.entry-index d (omega arith)
    (All-weaker (λ entry. lock_number entry.0 < c.loop-entry.len) (λ entry. lock_number entry.0 < n) (λ entry below. omega arith)
    (take c.loop-entry.entry-index xs) c.loop-entry.invariant)
    (subst (λ entry. lock_number entry.0 < n) (c.entry-item.is ∙ ap (λ l. get_or l c.loop-entry.entry-index d) c.deref-entry-items.ensures.value)
    (subst (λ a. a < n) c.number-end.ensures.number reaches))

pub returns : goal.returns
returns g c =
    let xs = c.args.blocks.now.items in
    subst (λ l. All (λ entry. lock_number entry.0 < c.loop-entry.len) l) (take_all c.loop-entry.entry-index xs (omega arith)) c.loop-entry.invariant
