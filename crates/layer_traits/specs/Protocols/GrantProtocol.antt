-- The protocol read over a log of grant words, and its sections.
use Rattle.std.specs.Prelude.{◌≡◌, ℕ, List}
use Rattle.event_log.specs.declared.{ids.{CpuId.CpuId, LockId.LockId}, grants.GrantEvent.GrantEvent}
use Rattle.event_log.specs.declared.grants.GrantEvent.TheVariants.{Take, Peek, Give}
use Rattle.event_log.specs.Grants.{MayFollowGrants, acts_of_grants, grant_lock_phase}
use Rattle.event_log.specs.{Sections.{Section, sections_in}, WordsLog.Holding}
use Rattle.layer_traits.specs.{declared.edits.Mark.Mark, Protocols.WordsProtocol.edit_of}

-- the sections of a log of grant words whose marks denote the edits: its Gives
abbrev pub grant_sections : {E : Type 0} → List (GrantEvent (Mark E)) → List (Section E)
grant_sections log = sections_in (acts_of_grants edit_of log)

-- an event keeps the protocol: if it releases a lock, its section is one that the relation allows
-- after the sections before
abbrev pub KeepsGrantProtocol : {E : Type 0} → (List (Section E) → Section E → Type 0)
    → List (GrantEvent (Mark E)) → GrantEvent (Mark E) → Type 0
KeepsGrantProtocol Allowed past (Take cpu lock ticket) = Unit {0}
KeepsGrantProtocol Allowed past (Peek cpu lock ticket read) = Unit {0}
KeepsGrantProtocol Allowed past (Give cpu lock mark) =
    Allowed (grant_sections past) (record { cpu = cpu; lock = lock; edit = mark.edit })

-- an event is allowed: it may follow this past in a log of grant words, and it keeps the protocol
abbrev pub GrantMayCome : {E : Type 0} → (List (Section E) → Section E → Type 0)
    → List (GrantEvent (Mark E)) → GrantEvent (Mark E) → Type 0
GrantMayCome Allowed past e = MayFollowGrants past e × KeepsGrantProtocol Allowed past e

-- some CPU is inside this lock
abbrev pub IsHeldBySome : {M : Type 0} → LockId → List (GrantEvent M) → Type 0
IsHeldBySome lock log =
    (cpu : CpuId) × (ticket : ℕ) × (grant_lock_phase cpu log ≡ Holding lock ticket)
