-- What a text must be so that the judge says yes, in terms of the buffers.
use Rattle.std.specs.Prelude.{◌≡◌, ℕ, List, Option, IfSome}
use Rattle.event_log.specs.{Messages.Message, declared.entries.Entry.Entry, Runs.IsLegalHistory}
use Rattle.event_log.specs.Streams.{IsFirstInFirstOut}
use Rattle.tracer.specs.{declared.verdicts.Verdict.{Verdict, TheVariants.Yes}, Judging.verdict_of}
use Rattle.tracer.specs.TraceText.{IsTraceText}

-- The text spells entries that are a legal history, and what it says is left is what that history
-- leaves. For each buffer the values put are, in that order, the values taken, followed by what is
-- left.
abbrev pub IsTraceOfRun : List ℕ → Type 0
IsTraceOfRun text =
    (caps : List ℕ) × (es : List Entry) × (left : List (List Message))
    × IsTraceText text caps es left × IsLegalHistory caps es left
    × IsFirstInFirstOut es left

-- The verdict is that on a text, which is all that was left to read if that is known. After a yes
-- it is the trace text of a legal history.
pub record IsVerdictOn (input : Option (List ℕ)) (verdict : Verdict) : Type 0 where
  pub text : List ℕ
  pub whole : IfSome input (λ known. text ≡ known)
  pub judged : verdict ≡ verdict_of text
  pub run : verdict ≡ Yes → IsTraceOfRun text
