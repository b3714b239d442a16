-- Lawful logs, to be read aloud: oldest first, and each event may follow the events before it.
use Rattle.std.specs.Prelude.{◌≡◌, ◌↔◌, List, [], ◌∷◌, ◌++◌, reverse}
use Rattle.event_log.specs.{declared.events.Event.Event, WordsLog.{MayFollow, IsLegalWords}}

-- wherever the log, oldest first, is split at an event, the event may follow the history before it
abbrev pub IsLawfulLog : {E : Type 0} → (List E → E → Type 0) → List E → Type 0
IsLawfulLog {E} May log =
    (before : List E) (e : E) (later : List E) → log ≡ before ++ (e ∷ later)
    → May (reverse before) e

-- a legal words log, oldest first
abbrev pub IsLegalLog : {M : Type 0} → List (Event M) → Type 0
IsLegalLog log = IsLawfulLog MayFollow log

-- both forms say the same of every words log
abbrev pub LogOrdersAgree : Type 0 → Type 0
LogOrdersAgree M = (log : List (Event M)) → IsLegalLog log ↔ IsLegalWords (reverse log)

-- a log with one more event is legal exactly if it was, and the event may follow it
abbrev pub LegalLogsGrow : Type 0 → Type 0
LegalLogsGrow M =
    (log : List (Event M)) (e : Event M)
    → IsLegalLog (log ++ (e ∷ [])) ↔ (IsLegalLog log × MayFollow (reverse log) e)
