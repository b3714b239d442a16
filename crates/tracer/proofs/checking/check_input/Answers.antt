use Rattle.std.proofs.{Common.{Ok, ap, ◌∙◌, arith}, lemmas.Result.err_from_is_err_and}
use Rattle.tracer.{specs.Parts.{held, verdict_behind}, proofs.PartLemmas.{judged_all, judged_part}}
use Rattle.tracer.proofs.checking.check_input.Goals as goal

pub returns-in_err-ended-clause-retried : goal.returns-in_err-ended-clause-retried
returns-in_err-ended-clause-retried g c = grind (arith, err_from_is_err_and)

pub returns-then-ended-clause-verdict : goal.returns-then-ended-clause-verdict
returns-then-ended-clause-verdict g c =
    let remaining = g.R.Read.remaining in
    let judge = c.take_lines-taken.new.self in
    let read = c.in_ok-ended.ensures in
    let part = c.drop_front.new.self in
    let judged = judged_part (remaining c.args.input.now) (remaining c.loop.input) (remaining c.fill.new.input) c.loop.judge judge (held c.loop.part)
    (held c.fill.new.self) c.held-in-loop.result.now (held part) c.take_lines-taken.result c.loop.invariant read.read c.held-in-loop.ensures
    c.take_lines-taken.ensures.judged c.drop_front.ensures.held in
    judged_all (remaining c.args.input.now) (remaining c.fill.new.input) judge (held part) c.verdict.result judged (read.end (ap Ok c.if-ended.true))
    (c.verdict.ensures ∙ ap (verdict_behind judge) c.held-then-ended.ensures) c.check_is_sound.ensures.sound

pub loop-preserved : goal.loop-preserved
loop-preserved g c =
    let remaining = g.R.Read.remaining in
    judged_part (remaining c.args.input.now) (remaining c.loop.input) (remaining c.fill.new.input) c.loop.judge c.take_lines-taken.new.self (held c.loop.part)
    (held c.fill.new.self) c.held-in-loop.result.now (held c.make_room.new.self) c.take_lines-taken.result c.loop.invariant c.in_ok-ended.ensures.read
    c.held-in-loop.ensures c.take_lines-taken.ensures.judged (c.make_room.ensures.held ∙ c.drop_front.ensures.held)
