-- The views of the judge's tallies, and what a step leaves.
use Rattle.std.specs.Prelude.{◌≡◌, Result, Ok, Err, map}
use Rattle.tracer.specs.declared.{verdicts.Reason.Reason, tally.Tally.Tally, judge.Judge.Judge}
use Rattle.tracer.specs.Judging.{Seen, TextProgress}

abbrev pub seen_in : Tally → Seen
seen_in t =
    record {
      capacity = t.capacity;
      items = t.items;
      ops = t.ops;
      sends = t.sends;
      recvs = t.recvs;
      closes = t.closes;
    }

-- the step's result is the new value; if the step gives a reason, that is the result
abbrev pub StepsTo : {X : Type 0} → Result X Reason → Result (Unit {0}) Reason → X → Type 0
StepsTo read (Ok done) now = read ≡ Ok now
StepsTo read (Err reason) now = read ≡ Err reason

-- the judge's progress
abbrev pub progress_of : Judge → TextProgress
progress_of judge = record {
  at = judge.at;
  version = judge.version;
  lowest = judge.lowest;
  buffers = map seen_in judge.buffers.items;
  entries = judge.entries;
}
