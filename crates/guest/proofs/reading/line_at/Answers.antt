-- The pieces are those of the text between single spaces.
use Rattle.std.proofs.{Common.{◌≡◌, ◌==◌, map, ap, sym, ◌∙◌, lit<}, lemmas.Iterator.{Consumers.map_from_collect, Splits.YieldsList-from_str_split}}
use Rattle.{std.specs.List.slice_split, guest.{specs.Language.{pieces_in, line_in, at_line}, proofs.reading.line_at.Goals.After-pieces}}
use Rattle.guest.proofs.reading.line_at.Goals as goal

-- the pieces' instruction is the line's
read : (c : After-pieces) → c.pieces.result ≡ line_in c.args.count c.args.text.now
unfolding line_in
read c =
    let parts : map (λ p. p.now) c.in_ok-parts.parts.items ≡ slice_split (λ byte. byte == 32) c.args.text.now =
    rw c.in_ok-parts.was at (map_from_collect _ c.collect.ensures.ran
    (YieldsList-from_str_split 32 c.args.text.now (lit< tt) c.split.ensures.text c.split.ensures.has_more c.split.ensures.pattern)) in
    c.pieces.ensures.instruction ∙ ap (pieces_in c.args.count) (ap (map (λ p. p.now)) c.deref.ensures.value ∙ parts)

pub returns-in-Ok-clause-instruction : goal.returns-in-Ok-clause-instruction
returns-in-Ok-clause-instruction c =
    ap (at_line c.args.line) (sym (read (goal.at.returns-in-Ok-clause-instruction c).After-pieces) ∙ c.in-Ok.is)

pub returns-clause-instruction : goal.returns-clause-instruction
returns-clause-instruction c = ap (at_line c.args.line) (sym (read (goal.at.returns-clause-instruction c).After-pieces) ∙ c.in-Err.is)
