-- What the two logs of lock words say of the queue at a lock: the phases of the CPUs, and the
-- tickets of their ticket indices.
use Rattle.std.proofs.Common.{arith, ◌≡◌, ℕ, ◌%◌, ◌^◌, ◌↔◌, List, [], ◌∷◌, Option, Some, None}
use Rattle.std.proofs.Common.{MatchOption, ap, sym, subst, ◌∙◌}
use Rattle.event_log.specs.declared.{ids.{CpuId.CpuId, LockId.LockId}, events.Event.Event}
use Rattle.event_log.specs.declared.grants.GrantEvent.{GrantEvent, TheVariants.{Take, Peek, Give}}
use Rattle.event_log.specs.{Actions.{Rests, Waits, Holds, phase, acts_of}, Grants.IsLegalGrants}
use Rattle.event_log.specs.{Grants.{acts_of_grants, grant_lock_phase}, History.IsLawful}
use Rattle.event_log.specs.{Sections.{Section, block_after, sections_in}, WordsLog.LockPhase}
use Rattle.event_log.specs.WordsLog.{Idle, Waiting, Holding, lock_phase}
use Rattle.event_log.proofs.{GrantWords.phase_grants, Tickets.phase_acts, Observed.TicketOf}
use Rattle.{event_log.proofs.Observed.phase_of, layer_traits.specs.declared.edits.Mark.Mark}
use Rattle.layer_traits.specs.Protocols.GrantProtocol.{GrantMayCome, IsHeldBySome, grant_sections}
use Rattle.layer_traits.specs.Protocols.{OneLock.SomeoneInside, WordsProtocol.{MayCome, edit_of}}
use Rattle.layer_traits.{specs.Protocols.WordsProtocol.sections, proofs.PlanLemmas.sections_acts}
use Rattle.{layer_traits.proofs.Seen.sections_allowed, spinlock.specs.OwnedLaws.SomeoneHolds}

-- a CPU that rests is outside
pub outside_of : (s : LockPhase) → phase_of s ≡ Rests → s ≡ Idle
outside_of s rests = grind arith

-- a CPU that waits has the ticket of its ticket index
pub line_waiting_with : (s : LockPhase) (lock : LockId) (ticket_index ticket : ℕ)
    → phase_of s ≡ Waits lock
    → TicketOf s ticket_index → ticket ≡ ticket_index % 2 ^ 64
    → s ≡ Waiting lock ticket
line_waiting_with s lock ticket_index ticket waits has is = grind arith

-- a CPU that holds a lock is inside it
pub inside_of : (s : LockPhase) (lock : LockId) → phase_of s ≡ Holds lock
    → (ticket : ℕ) × (s ≡ Holding lock ticket)
inside_of s lock holds = grind arith

-- the sections of a words log, as actions, are each allowed
pub acts_lawful : {E : Type 0} (Allowed : List (Section E) → Section E → Type 0)
    (log : List (Event (Mark E))) → IsLawful (MayCome Allowed) log
    → IsLawful Allowed (sections_in (acts_of edit_of log))
acts_lawful Allowed log lawful =
    subst (IsLawful Allowed) (sections_acts log) (sections_allowed Allowed log lawful)

pub rests_outside : {E : Type 0} (log : List (Event (Mark E))) (c : CpuId)
    → (lock_phase c log ≡ Idle) ↔ (phase c (acts_of edit_of log) ≡ Rests)
rests_outside log c = (
  λ outside. phase_acts edit_of c log ∙ ap phase_of outside,
  λ rests. outside_of (lock_phase c log) (sym (phase_acts edit_of c log) ∙ rests),
)

-- a log of grant words that keeps the protocol is a legal one
pub grants_legal : {E : Type 0} (Allowed : List (Section E) → Section E → Type 0)
    (log : List (GrantEvent (Mark E))) → IsLawful (GrantMayCome Allowed) log
    → IsLegalGrants log
grants_legal Allowed [] lawful = tt
grants_legal Allowed (e ∷ past) lawful = (lawful.0.0, grants_legal Allowed past lawful.1)

-- and its sections are each allowed
pub grants_lawful : {E : Type 0} (Allowed : List (Section E) → Section E → Type 0)
    (log : List (GrantEvent (Mark E))) → IsLawful (GrantMayCome Allowed) log
    → IsLawful Allowed (grant_sections log)
grants_lawful Allowed [] lawful = tt
grants_lawful Allowed (Take cpu lock ticket ∷ past) lawful = grants_lawful Allowed past lawful.1
grants_lawful Allowed (Peek cpu lock ticket read ∷ past) lawful =
    grants_lawful Allowed past lawful.1
grants_lawful Allowed (Give cpu lock mark ∷ past) lawful =
    (lawful.0.1, grants_lawful Allowed past lawful.1)

pub rests_outside_grants : {E : Type 0} (log : List (GrantEvent (Mark E))) (c : CpuId)
    → (grant_lock_phase c log ≡ Idle) ↔ (phase c (acts_of_grants edit_of log) ≡ Rests)
rests_outside_grants log c = (
  λ outside. phase_grants edit_of c log ∙ ap phase_of outside,
  λ rests. outside_of (grant_lock_phase c log) (sym (phase_grants edit_of c log) ∙ rests),
)

-- what a machine of ticket locks states of a block, in terms of the queue
pub words_blocks : {E B : Type 0} (edited : E → B → B) (opening : LockId → Option B)
    (log : List (Event (Mark E))) (lock : LockId) (home : Option B)
    → MatchOption home (SomeoneInside lock log)
    (λ block. block_after edited opening lock (sections log) ≡ Some block)
    → MatchOption home (SomeoneHolds lock (acts_of edit_of log))
    (λ block. block_after edited opening lock (sections_in (acts_of edit_of log)) ≡ Some block)
words_blocks edited opening log lock None inside =
    (inside.0, phase_acts edit_of inside.0 log ∙ ap phase_of inside.2)
words_blocks edited opening log lock (Some block) is =
    ap (block_after edited opening lock) (sym (sections_acts log)) ∙ is

-- and the same of a machine of locks with grant words
pub grants_blocks : {E B : Type 0} (edited : E → B → B) (opening : LockId → Option B)
    (log : List (GrantEvent (Mark E))) (lock : LockId) (home : Option B)
    → MatchOption home (IsHeldBySome lock log)
    (λ block. block_after edited opening lock (grant_sections log) ≡ Some block)
    → MatchOption home (SomeoneHolds lock (acts_of_grants edit_of log))
    (λ block. block_after edited opening lock (sections_in (acts_of_grants edit_of log))
    ≡ Some block)
grants_blocks edited opening log lock None inside =
    (inside.0, phase_grants edit_of inside.0 log ∙ ap phase_of inside.2)
grants_blocks edited opening log lock (Some block) is = is
