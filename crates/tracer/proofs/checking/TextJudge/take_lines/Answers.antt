use Rattle.std.proofs.{Common.{◌≡◌, ◌+◌, ◌<◌, [], length, take, Some, Ok, refl, arith}, lemmas.Bool.Decides.nat_tests}
use Rattle.tracer.{specs.{declared.checking.TextJudge.TextJudge, Tallies.progress_of}, proofs.PartLemmas.{line_over, faulty_line_over, all_taken}}
use Rattle.tracer.proofs.checking.TextJudge.take_lines.Goals as goal

pub returns-in-Err-clause-judged : goal.returns-in-Err-clause-judged
returns-in-Err-clause-judged c = λ more.
    let new : TextJudge = record { judge = c.next_line-judged.new.self; line = c.loop-rest.self.line; fault = Some c.in-Err.reason } in
    faulty_line_over c.args.self.now c.args.part.now c.lines_end-end.result c.loop-rest.self new c.loop-rest.rest.now c.next_line-judged.result.0
    (progress_of c.next_line-judged.new.self) c.next_line-judged.result.1.now c.in-Err.reason c.loop-rest.invariant c.next_line-judged.ensures c.in-Err.is
    refl refl more []

pub loop-rest-preserved : goal.loop-rest-preserved
loop-rest-preserved c =
    let new : TextJudge = record { judge = c.next_line-judged.new.self; line = c.loop-rest.self.line + 1; fault = c.loop-rest.self.fault } in
    let some : 0 < length c.loop-rest.rest.now = grind (arith, nat_tests) in
    let ok : c.next_line-judged.result.0 ≡ Ok tt = c.in_default.is in
    line_over c.args.self.now (take c.lines_end-end.result c.args.part.now) c.loop-rest.self new c.loop-rest.rest.now c.next_line-judged.result.0
    c.next_line-judged.result.1.now some c.loop-rest.invariant c.next_line-judged.ensures ok refl refl

pub returns-clause-judged : goal.returns-clause-judged
returns-clause-judged c =
    let none : length c.loop-rest.rest.now ≡ 0 = grind (arith, nat_tests) in
    all_taken c.args.self.now c.args.part.now c.lines_end-end.result c.loop-rest.self c.loop-rest.rest.now c.loop-rest.invariant none
