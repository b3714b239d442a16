-- The protocol in a words log: its Frees are the sections, each with the edit that its mark
-- denotes. Only locks of words and the machines under them need it.
use Rattle.std.specs.Prelude.{List, [], ◌∷◌}
use Rattle.event_log.specs.declared.events.Event.{Event, TheVariants.{Draw, Look, Free}}
use Rattle.event_log.specs.{History.IsLawful, WordsLog.{IsLegalWords, MayFollow}, Sections.Section}
use Rattle.{event_log.specs.Sections.sections_of, layer_traits.specs.declared.edits.Mark.Mark}

-- the edit that a mark denotes
abbrev pub edit_of : {E : Type 0} → Mark E → E
edit_of mark = mark.edit

-- the mark that denotes this edit
abbrev pub mark_of : {E : Type 0} → E → Mark E
mark_of edit = record { edit = edit }

-- the sections of a words log whose marks denote the edits
abbrev pub sections : {E : Type 0} → List (Event (Mark E)) → List (Section E)
sections log = sections_of edit_of log

-- an event keeps the protocol: if it frees a lock, its section is one that the relation allows
-- after the sections before
abbrev pub KeepsProtocol : {E : Type 0} → (List (Section E) → Section E → Type 0)
    → List (Event (Mark E)) → Event (Mark E) → Type 0
KeepsProtocol Allowed past (Draw cpu lock ticket) = Unit {0}
KeepsProtocol Allowed past (Look cpu lock ticket read) = Unit {0}
KeepsProtocol Allowed past (Free cpu lock mark) =
    Allowed (sections past) (record { cpu = cpu; lock = lock; edit = mark.edit })

-- an event is allowed: it may follow this past in a words log, and it keeps the protocol
abbrev pub MayCome : {E : Type 0} → (List (Section E) → Section E → Type 0) → List (Event (Mark E))
    → Event (Mark E) → Type 0
MayCome Allowed past e = MayFollow past e × KeepsProtocol Allowed past e

-- a log that keeps the protocol is a legal words log
pub words_legal : {E : Type 0} (Allowed : List (Section E) → Section E → Type 0)
    (log : List (Event (Mark E))) → IsLawful (MayCome Allowed) log
    → IsLegalWords log
words_legal Allowed [] lawful = tt
words_legal Allowed (e ∷ past) lawful = (lawful.0.0, words_legal Allowed past lawful.1)
