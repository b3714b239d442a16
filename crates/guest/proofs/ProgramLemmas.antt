-- Reading a program line by line: what has been read after some lines.
use Rattle.std.proofs.{Common.{◌≡◌, ℕ, ◌<◌, ◌≤◌, List, length, get_or, map, All, Ok, sym, ◌∙◌, ap}, lemmas.List.length-map}
use Rattle.event_log.{specs.Reading.read_from, proofs.ReadingLemmas.{after, left_from, read_fault, read_all}}
use Rattle.guest.specs.{declared.{instructions.Instruction.Instruction, refusals.GuestError.{GuestError, TheVariants.{NoMemory, At}}}, Instructions.IsWithin}
use Rattle.guest.specs.Language.{numbered_line, program_lines, FaultsAs}

-- after the first `i` lines: their instructions precede what is left to read
pub record ReadSoFar {X : Type 0} (text : X → List ℕ) (lines : List X) (i : ℕ) (front : List Instruction) : Type 0 where
  pub read : after front (left_from text (numbered_line (length lines)) lines i) ≡ read_from (numbered_line (length lines)) 0 (map text lines)
  pub len : length front ≡ i
  pub within : All (IsWithin (length lines)) front

module _ {X : Type 0} (text : X → List ℕ) (lines : List X) where
  -- the lines as the program's text has them
  pub lines_seen : program_lines (map text lines) ≡ read_from (numbered_line (length lines)) 0 (map text lines)
  unfolding program_lines
  lines_seen = ap (λ n. read_from (numbered_line n) 0 (map text lines)) (length-map lines text)

  pub so_far_fault : (i : ℕ) (d : X) (front : List Instruction) (e : GuestError) → ReadSoFar text lines i front → i < length lines
      → FaultsAs e (numbered_line (length lines) i (text (get_or lines i d))) → FaultsAs e (program_lines (map text lines))
  so_far_fault i d front (NoMemory _) so_far h fails = tt
  so_far_fault i d front (At line fault) so_far h fails =
      lines_seen ∙ sym so_far.read ∙ read_fault text (numbered_line (length lines)) lines i d front (At line fault) h fails

  pub so_far_all : (i : ℕ) (front : List Instruction) → ReadSoFar text lines i front → length lines ≤ i → program_lines (map text lines) ≡ Ok front
  so_far_all i front so_far h = lines_seen ∙ sym so_far.read ∙ read_all text (numbered_line (length lines)) lines i front h
