-- The digits of a short number are the first piece, and the number is theirs.
use Rattle.{std.proofs.{Common.{arith, take_all}, lemmas.List.take_rest}, tracer.proofs.{NumeralLemmas.front_number, SplitLemmas.{digits_cut, digits_end}}}
use Rattle.tracer.proofs.pieces.short_number.Goals.{else-count-gt1-via-then-count-gt1+else-text-eq48, else-count-gt1-via-else-count-gt1}
use Rattle.tracer.proofs.pieces.short_number.Goals as goal

pub known-requires : goal.known-requires
known-requires c = grind (arith, front_number, take_all)

pub returns-then-count-text : goal.returns-then-count-text
returns-then-count-text c = grind (arith, digits_end)

pub known-requires-2 : goal.known-requires-2
known-requires-2 c = grind (arith, front_number)

pub returns : goal.returns
returns c = grind (arith, take_rest, digits_cut)
