use Rattle.{std.proofs.lemmas.Result.err_from_is_err_and, guest.proofs.ProgramLemmas.{so_far_fault, so_far_all}}
use Rattle.guest.proofs.reading.instructions_in.Goals as goal

pub returns-in_err-instruction-clause-instructions : goal.returns-in_err-instruction-clause-instructions
returns-in_err-instruction-clause-instructions c =
    let p = err_from_is_err_and c.from_residual.result c.from_residual.ensures.1 in
    rw (p.1, p.2) (so_far_fault (λ line. line.now) c.args.lines.now c.loop-index.index _ c.loop-index.instructions.items c.in_err-instruction.field-0.0
    c.loop-index.invariant c.loop-index-test.true c.in_err-instruction.ensures.instruction)

pub returns-clause-instructions : goal.returns-clause-instructions
returns-clause-instructions c = so_far_all (λ line. line.now) c.args.lines.now c.loop-index.index c.loop-index.instructions.items c.loop-index.invariant
    c.loop-index-test.false
