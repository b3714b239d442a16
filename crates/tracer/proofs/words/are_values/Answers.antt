use Rattle.std.proofs.Common.{◌∙◌, arith}
use Rattle.tracer.proofs.PieceLemmas.{piece_missing, none_left}
use Rattle.tracer.proofs.words.are_values.Goals as goal

pub returns-in_default : goal.returns-in_default
returns-in_default c = grind (arith, piece_missing)

pub returns : goal.returns
returns c = none_left c.loop-message.pieces c.args.messages.now c.loop-message.message-index _ c.loop-message-test.false c.is_none.ensures
    ∙ c.loop-message.invariant
