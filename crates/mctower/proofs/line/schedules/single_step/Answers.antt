-- The digits are the first item, and a text may be cut after a comma.
use Rattle.std.proofs.{Common.{◌<◌, get_or, arith}, lemmas.Str.IsCharBoundary-after_ascii}
use Rattle.{mctower.{proofs.ScheduleLemmas.step_cut}}
use Rattle.mctower.proofs.line.schedules.single_step.Goals as goal

pub range_from-requires : goal.range_from-requires
range_from-requires c =
    let comma : get_or c.as_bytes.result.now c.in_ok-count.count 0 < 128 = omega (arith, c.in_ok-count.ensures.comma) in
    λ _. IsCharBoundary-after_ascii c.args.text.now c.in_ok-count.count c.utf8.text (rw c.as_bytes.ensures.value at c.in_ok-count.ensures.inside)
    (rw c.as_bytes.ensures.value at comma)

pub returns-clause-step : goal.returns-clause-step
returns-clause-step c =
    let read = c.in_ok-count.ensures in
    rw (c.range_from.ensures.value, ← c.as_bytes.ensures.value)
    (step_cut c.as_bytes.result.now c.in_ok-count.count c.in_ok-count.cpu read.digits read.item read.inside read.comma)
