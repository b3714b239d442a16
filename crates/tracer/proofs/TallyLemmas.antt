-- A step on one buffer is a step among the buffers.
use Rattle.std.proofs.{Common.{◌≡◌, ℕ, ◌<◌, ◌≤◌, List, length, get_or, set, map, Option, Some, Result, Ok, Err, ap, ◌∙◌, arith}, lemmas.List.map-set}
use Rattle.std.{proofs.lemmas.{List.length-map, Option.{slice_get-map, slice_get-get_or, slice_get_past}}, specs.Prelude.{slice_get, slice_set, option_map}}
use Rattle.event_log.specs.{declared.entries.Entry.Entry, Reading.{◌>>=◌}}
use Rattle.tracer.specs.{declared.{verdicts.Reason.{Reason, TheVariants.Range}, tally.Tally.Tally}, Judging.{Seen, or_range, entry_on, entry_among}}
use Rattle.tracer.specs.Tallies.{seen_in, StepsTo}

-- the buffer as it is seen among the others
seen_at : (ts : List Tally) (b : ℕ) (d : Tally) → b < length ts → slice_get (map seen_in ts) b ≡ Some (seen_in (get_or ts b d))
seen_at ts b d lt = slice_get-map seen_in ts b ∙ ap (option_map seen_in) (slice_get-get_or ts b d lt)

abbrev among : Entry → List Seen → Option Seen → Result (List Seen) Reason
among e buffers history = or_range history >>= λ here. entry_on e here >>= λ next. Ok (slice_set buffers e.buffer.0 next)

stepped : (e : Entry) (ts : List Tally) (history : Seen) (new : Tally) (r : Result (Unit {0}) Reason) → StepsTo (entry_on e history) r (seen_in new)
    → StepsTo (among e (map seen_in ts) (Some history)) r (map seen_in (set ts e.buffer.0 new))
stepped e ts history new r given = grind (arith, map-set)

pub entered : (e : Entry) (ts : List Tally) (b : ℕ) (d new : Tally) (r : Result (Unit {0}) Reason) → b ≡ e.buffer.0 → b < length ts
    → StepsTo (entry_on e (seen_in (get_or ts b d))) r (seen_in new) → StepsTo (entry_among e (map seen_in ts)) r (map seen_in (set ts b new))
unfolding entry_among
entered e ts b d new r same lt steps = grind (arith, seen_at, stepped)

-- where there is no such buffer
pub entered_nowhere : (e : Entry) (ts : List Tally) (b : ℕ) → b ≡ e.buffer.0 → length ts ≤ b → entry_among e (map seen_in ts) ≡ Err Range
unfolding entry_among
entered_nowhere e ts b same le = grind (arith, slice_get_past, length-map)
