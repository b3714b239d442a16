-- What it says of the pieces of a line that one was read, or that none was left.
use Rattle.std.proofs.Common.{◌≡◌, ℕ, ◌<◌, ◌≤◌, ◌==◌, Bool, false, not, List, [], ◌∷◌, length, drop, Option, Err, refl, ap, arith}
use Rattle.{std.{proofs.lemmas.List.{drop_more, drop_all, Splits.length-slice_split}, specs.Prelude.{is_none, is_some}}, event_log.specs.Messages.Message}
use Rattle.tracer.specs.{declared.{verdicts.Reason.Reason, pieces.Pieces.Pieces}, Judging.{piece_at, line_pieces, are_values}, Lines.left_of}
use denote.Ref.{Bor}

pub no_piece : (ps : List (List ℕ)) (reason : Reason) → piece_at ps ≡ Err reason → ps ≡ []
no_piece ps reason e = grind arith

-- a number is wanted, and no piece is left
pub piece_missing : (ps : List (List ℕ)) (reason : Reason) (ns : List Message) (i : ℕ) → piece_at ps ≡ Err reason → i < length ns
    → are_values ps (drop i ns) ≡ false
piece_missing ps reason ns i e lt = rw (no_piece ps reason e, drop_more ns i [] lt) refl

-- a line has a piece
no_pieces : (line : List ℕ) (ps : List (List ℕ)) → line_pieces line ≡ ps → are_values ps [] ≡ false
no_pieces line [] e = absurd (let n = ap length e in omega (arith, length-slice_split (λ b. b == 32) line))
no_pieces line (p ∷ ps) e = refl

pub none_left : (pieces : Pieces) (ns : List Message) (i : ℕ) (b : Bool) → length ns ≤ i → is_some pieces.rest ≡ not b
    → b ≡ are_values (left_of pieces) (drop i ns)
none_left pieces ns i b le e = grind (arith, drop_all, no_pieces)
