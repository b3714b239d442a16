-- The pieces of a line as the writer has them.
use Rattle.std.specs.Prelude.{ℕ, List, ◌∷◌, decimal}
use Rattle.tracer.specs.declared.writing.Piece.{Piece, TheVariants.{Word, Number}}

-- how a piece is spelled
abbrev pub text_of : Piece → List ℕ
text_of (Word word) = word.now
text_of (Number number) = decimal number

-- a piece after a space
abbrev pub spaced : List ℕ → List ℕ
spaced text = 32 ∷ text

-- a word of a message after the first
abbrev pub behind_comma : ℕ → List ℕ
behind_comma word = 44 ∷ decimal word
