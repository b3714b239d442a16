-- The views of the judge's values.
use Rattle.std.specs.Prelude.{◌≡◌, ◌==◌, ◌<◌, ℕ, List, [], ◌∷◌, ◌++◌, Some, None, false, length}
use Rattle.std.specs.Prelude.{slice_index_or}
use Rattle.tracer.specs.declared.{pieces.Pieces.Pieces, lines.EntryDigits.EntryDigits}
use Rattle.tracer.specs.Judging.{line_pieces, Digits}

-- the pieces that are still to be read
abbrev pub left_of : Pieces → List (List ℕ)
left_of pieces = elim pieces.rest [ None ↦ [] | Some line ↦ line_pieces line.now ]

abbrev pub digits_of : EntryDigits → Digits
digits_of d = record {
  cpu = d.cpu.text.now;
  thread = d.thread.text.now;
  kind = d.kind;
  buffer = d.buffer.text.now;
  value = d.value.text.now;
  op = d.op.text.now;
  pos = d.pos.text.now;
}

-- the text is this line, which has no line feed, a line feed, and the rest
pub record IsFirstLine (text line behind : List ℕ) : Type 0 where
  pub whole : text ≡ line ++ 10 ∷ behind
  pub first : (k d : ℕ) → k < length line → (slice_index_or line k d == 10) ≡ false
