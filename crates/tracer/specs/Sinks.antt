-- The view of a sink, and what writing a text to a writer leaves.
use Rattle.std.specs.Prelude.{◌≡◌, ℕ, Bool, true, false, List, ◌++◌, Option}
use Rattle.std.specs.Io.KnownBytes.{Appends}
use Rattle.tracer.specs.declared.sinks.Sink.{Sink}

-- whether a write failed
abbrev pub has_failed : {W : Type 0} → Sink W → Bool
has_failed sink = sink.failed

-- whether nothing was put since the last successful flush, or ever
abbrev pub is_flushed : {W : Type 0} → Sink W → Bool
is_flushed sink = sink.flushed

-- the writer under a sink
abbrev pub writer_of : {W : Type 0} → Sink W → W
writer_of sink = sink.writer

-- The bytes that the writer holds, if they are known, have grown by the text, or by a prefix of it
-- if the sink failed.
abbrev pub Outs : Bool → Option (List ℕ) → Option (List ℕ) → List ℕ → Type 0
Outs false old new text = Appends old new text
Outs true old new text =
    (front : List ℕ) × (rest : List ℕ) × (text ≡ front ++ rest) × Appends old new front

-- from one state of a sink to the next this text was written: all of it, or a prefix if the sink
-- failed
abbrev pub WentOut : {W : Type 0} → (W → Option (List ℕ)) → Sink W → Sink W → List ℕ → Type 0
WentOut contents old new text =
    Outs (has_failed new) (contents (writer_of old)) (contents (writer_of new)) text
