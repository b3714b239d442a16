use Rattle.std.{proofs.Common.{◌≡◌, take}, specs.List.flat_map}
use Rattle.mctower.proofs.tell.pieces.joined.Given as goal

-- the pieces before the index are in the line
abbrev pub invariant-loop-piece : goal.invariant-loop-piece
invariant-loop-piece l = l.line.items ≡ flat_map (λ p. p.now) (take l.piece-index l.pieces)
