-- A text that is read and judged in parts.
use Rattle.std.specs.Prelude.{ℕ, List, Some, None, length, take}
use Rattle.tracer.specs.declared.{parts.Part.Part, checking.TextJudge.TextJudge}
use Rattle.tracer.specs.{declared.verdicts.Verdict.{Verdict, TheVariants.No}, Judging.lines_in}
use Rattle.tracer.specs.{Judging.verdict_from, Tallies.progress_of}

-- the bytes that are read and not yet judged
abbrev pub held : Part → List ℕ
held part = take part.filled part.bytes.items

-- the bytes for which it has room
abbrev pub bytes_room : Part → ℕ
bytes_room part = length part.bytes.items

-- the verdict, if this text follows the lines that were judged
abbrev pub verdict_behind : TextJudge → List ℕ → Verdict
verdict_behind judge text = elim judge.fault [
  | None ↦ verdict_from (progress_of judge.judge) judge.line (lines_in text)
  | Some reason ↦ No judge.line reason
]
