-- One line more of a text that is judged.
use Rattle.std.proofs.{Common.{◌≡◌, ℕ, ◌+◌, ◌<◌, ◌==◌, List, ◌∷◌, length, Ok, Err, refl, ap, ◌∙◌, arith}, lemmas.List.Splits.length-slice_split}
use Rattle.tracer.specs.{declared.verdicts.{Reason.Reason, Verdict.TheVariants.No}, Judging.{TextProgress, lines_in, step, after_line, verdict_from}}

-- a line that is not the last
more_lines : (s : TextProgress) (n : ℕ) (line : List ℕ) (parts : List (List ℕ)) → 0 < length parts
    → verdict_from s n (line ∷ parts) ≡ after_line (step s line) n (λ after. verdict_from after (n + 1) parts)
more_lines s n line parts some = grind arith

cut_line : (s : TextProgress) (n : ℕ) (rest line behind : List ℕ) → lines_in rest ≡ line ∷ lines_in behind
    → verdict_from s n (lines_in rest) ≡ after_line (step s line) n (λ after. verdict_from after (n + 1) (lines_in behind))
cut_line s n rest line behind cut = ap (verdict_from s n) cut ∙ more_lines s n line (lines_in behind) (omega (arith, length-slice_split (λ b. b == 10) behind))

-- the line is taken
pub line_taken : (s after : TextProgress) (n : ℕ) (rest line behind : List ℕ) → lines_in rest ≡ line ∷ lines_in behind → step s line ≡ Ok after
    → verdict_from s n (lines_in rest) ≡ verdict_from after (n + 1) (lines_in behind)
line_taken s after n rest line behind cut taken = cut_line s n rest line behind cut ∙ rw taken refl

-- the line has a fault
pub line_refused : (s : TextProgress) (n : ℕ) (rest line behind : List ℕ) (reason : Reason) → lines_in rest ≡ line ∷ lines_in behind → step s line ≡ Err reason
    → verdict_from s n (lines_in rest) ≡ No n reason
line_refused s n rest line behind reason cut bad = cut_line s n rest line behind cut ∙ rw bad refl
