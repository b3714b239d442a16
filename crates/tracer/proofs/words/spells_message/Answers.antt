use Rattle.{std.proofs.Common.arith, tracer.proofs.MessageLemmas.{not_spelled, spells_number}}
use Rattle.tracer.proofs.words.spells_message.Goals as goal

pub returns-then-is_number : goal.returns-then-is_number
returns-then-is_number c = grind (arith, spells_number)

pub returns-else-covers : goal.returns-else-covers
returns-else-covers c = not_spelled c.args.version c.args.piece.text.now c.in-Some.field-0-0.now c.in-Some.field-0-1.now c.covers.result c.in-Some.ensures.some
    c.covers.ensures c.if-covers.false
