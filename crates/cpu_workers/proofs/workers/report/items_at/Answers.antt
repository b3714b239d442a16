use Rattle.std.proofs.Common.{◌≡◌, ◌≤◌, true, false, length, ap, ◌∙◌, sym, rules, arith}
use Rattle.{event_log.specs.History.same_lock, cpu_workers.{specs.{Closing.block_shown, Lawful.messages_in}, proofs.SeatViews.{opened_end, opened_here}}}
use Rattle.cpu_workers.proofs.SeatViews.{opened_later}
use Rattle.cpu_workers.proofs.workers.report.items_at.Goals as goal

pub returns-then-eq : goal.returns-then-eq
returns-then-eq c =
    let o = c.index-blocks-i.result in
    let same : same_lock o.0 c.args.lock ≡ true = search rules in
    c.items_of.ensures ∙ sym (ap (λ o. messages_in (block_shown o))
    (c.loop-i.invariant.left ∙ opened_here c.args.lock c.args.blocks.now c.loop-i.i o c.loop-i-test.true c.index-blocks-i.is same))

pub loop-i-preserved : goal.loop-i-preserved
loop-i-preserved c =
    let o = c.index-blocks-i.result in
    let other : same_lock o.0 c.args.lock ≡ false = search rules in
    record { left = c.loop-i.invariant.left ∙ opened_later c.args.lock c.args.blocks.now c.loop-i.i o c.loop-i-test.true c.index-blocks-i.is other }

pub returns : goal.returns
returns c =
    let past : length c.args.blocks.now ≤ c.loop-i.i = omega (arith, c.loop-i-test.false) in
    c.new.ensures ∙ sym (ap (λ o. messages_in (block_shown o)) (c.loop-i.invariant.left ∙ opened_end c.args.lock c.args.blocks.now c.loop-i.i past))
