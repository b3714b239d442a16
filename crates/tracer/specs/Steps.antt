-- One line more is judged, of a text that ends in a line feed.
use Rattle.std.specs.Prelude.{◌≡◌, ◌+◌, ◌-◌, ◌<◌, ℕ, List, Result, Ok, length, nat_lt, slice_index}
use Rattle.event_log.specs.declared.{ids.TheConstants.ENTRIES, entries.Entry.Entry}
use Rattle.event_log.specs.Reading.{◌>>=◌}
use Rattle.tracer.specs.{declared.verdicts.Reason.{Reason, TheVariants.Range}, Judging.TextProgress}
use Rattle.tracer.specs.{Judging.{or_reason, entry_among, step}, Lines.IsFirstLine, Tallies.StepsTo}
use Rattle.tracer.specs.Versions.{both, version_of_entry}

-- the last byte of the text is a line feed
pub record EndsInLine (text : List ℕ) : Type 0 where
  pub some : 0 < length text
  pub last : slice_index text (length text - 1) ≡ 10

-- an entry that was read is judged
unfoldable pub judged_entry : Entry → TextProgress → Result TextProgress Reason
judged_entry e s = or_reason (nat_lt s.entries ENTRIES) Range (entry_among e s.buffers)
    >>= λ buffers. Ok (record
    s {
      lowest = both s.lowest (version_of_entry e);
      buffers = buffers;
      entries = s.entries + 1;
    })

-- the first line of the text is judged, and after its line feed stands the rest
pub record StepsOver (old : TextProgress) (text : List ℕ) (judged : Result (Unit {0}) Reason)
    (now : TextProgress) (behind : List ℕ) : Type 0 where
  pub line : List ℕ
  pub is : IsFirstLine text line behind
  pub steps : StepsTo (step old line) judged now
