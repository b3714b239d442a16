-- Which version of the trace text can spell a trace.
use Rattle.std.specs.Prelude.{ℕ, Bool, true, false, List, [], ◌∷◌, length, nat_lt, if◌then◌else◌}
use Rattle.event_log.specs.{Messages.Message, declared.entries.Kind.{Kind, TheVariants.Send}}
use Rattle.event_log.specs.declared.entries.Kind.TheVariants.{Recv, Close, SendClosed, RecvClosed}
use Rattle.event_log.specs.declared.entries.Entry.{Entry}
use Rattle.tracer.specs.declared.versions.Version.{Version, TheVariants.{One, Two, Three}}

-- a text of the first version can hold all that one of the other can
abbrev pub covers : Version → Version → Bool
covers One One = true
covers One Two = false
covers One Three = false
covers Two One = true
covers Two Two = true
covers Two Three = false
covers Three v = true

-- the lowest version that covers both
abbrev pub both : Version → Version → Version
both One v = v
both Two One = Two
both Two Two = Two
both Two Three = Three
both Three v = Three

-- the first version that has a word for this kind
abbrev pub version_of_kind : Kind → Version
version_of_kind Send = One
version_of_kind Recv = One
version_of_kind Close = Two
version_of_kind SendClosed = Two
version_of_kind RecvClosed = Two

-- the first version that can spell so many words as one message
abbrev pub version_of_count : ℕ → Version
version_of_count n = if nat_lt 1 n then Three else One

abbrev pub version_of_message : Message → Version
version_of_message m = version_of_count (length m)

abbrev pub version_of_entry : Entry → Version
version_of_entry e = both (version_of_kind e.kind) (version_of_message e.value)

-- the lowest version that covers this one and can spell these entries
abbrev pub version_from : Version → List Entry → Version
version_from v [] = v
version_from v (e ∷ es) = version_from (both v (version_of_entry e)) es

-- the lowest version that can spell these entries
abbrev pub version_of : List Entry → Version
version_of es = version_from One es
