-- The events that the notes (compressed entries) of the stored log represent.
use Rattle.std.specs.Prelude.{ℕ, ◌%◌, ◌^◌, List, [], ◌∷◌, ◌++◌, replicate}
use Rattle.event_log.specs.{declared.events.Event.Event, Grants.ticket_in, WordsLog.lock_phase}
use Rattle.{event_log.specs.WordsLog.{draws, frees}, plain_machine.specs.declared.notes.Note.Note}
use Rattle.plain_machine.specs.declared.notes.Note.TheVariants.{Draw, Look, Free, Again}
use Rattle.event_log.specs.declared.events.Event.TheVariants as event

-- the past with the newest event so many times more
abbrev pub repeated : {M : Type 0} → ℕ → List (Event M) → List (Event M)
repeated times [] = []
repeated times (newest ∷ past) = replicate times newest ++ newest ∷ past

-- The past with a note's event, given the marks, newest first, that are not yet used. A `draw` has
-- the number of earlier draws. A `look` has its CPU's ticket and reads the number of earlier frees.
-- A `free` has the newest mark.
abbrev pub with_note : {M : Type 0} → Note → List M → List (Event M) → List (Event M)
with_note (Draw cpu lock) marks past = event.Draw cpu lock (draws lock past % 2 ^ 64) ∷ past
with_note (Look cpu lock) marks past =
    event.Look cpu lock (ticket_in (lock_phase cpu past)) (frees lock past % 2 ^ 64) ∷ past
with_note (Free cpu lock) [] past = past
with_note (Free cpu lock) (mark ∷ marks) past = event.Free cpu lock mark ∷ past
with_note (Again times) marks past = repeated times past

-- the marks that older notes use
abbrev pub older : {M : Type 0} → Note → List M → List M
older (Draw cpu lock) marks = marks
older (Look cpu lock) marks = marks
older (Free cpu lock) [] = []
older (Free cpu lock) (mark ∷ marks) = marks
older (Again times) marks = marks

-- the events that these notes and the marks of their frees represent, all newest first
abbrev pub told : {M : Type 0} → List Note → List M → List (Event M)
told [] marks = []
told (note ∷ notes) marks = with_note note marks (told notes (older note marks))

-- how many events a note represents
abbrev pub weight : Note → ℕ
weight (Draw cpu lock) = 1
weight (Look cpu lock) = 1
weight (Free cpu lock) = 1
weight (Again times) = times
