-- What holds of every legal log, of marks or names of any type.
use Rattle.std.specs.Prelude.{◌≡◌, ℕ, ◌<◌, ◌≤◌, ◌↔◌, true, false, List, [], ◌∷◌, ◌++◌}
use Rattle.event_log.specs.declared.ids.{CpuId.CpuId, LockId.LockId, TheConstants.CPUS}
use Rattle.event_log.specs.declared.events.Event.{Event, TheVariants.{Draw, Look, Free}}
use Rattle.event_log.specs.{History.{same_cpu, own_events}, WordsLog.{cpu_of_event, frees}}
use Rattle.event_log.specs.{WordsLog.{IsLegalWords, Holding, lock_phase}, Actions.{Action, Take}}
use Rattle.event_log.specs.Actions.{Try, Give, Rests, Holds, cpu_of_action, gives, phase, AreLegal}
use Rattle.event_log.specs.{Actions.{IsFree, AreFree, next_action, acts_of}, Sections.sections_in}

-- mutual exclusion, for actions: two CPUs never hold one lock
abbrev pub OneHolds : Type 0 → Type 0
OneHolds N = (actions : List (Action N)) → AreLegal actions → (a b : CpuId) (lock : LockId)
    → phase a actions ≡ Holds lock → phase b actions ≡ Holds lock → a ≡ b

-- mutual exclusion, for words logs: two CPUs are never inside one lock, whatever their tickets are
abbrev pub MutualExclusion : Type 0 → Type 0
MutualExclusion M =
    (log : List (Event M)) → IsLegalWords log → (a b : CpuId) (lock : LockId) (s t : ℕ)
    → lock_phase a log ≡ Holding lock s → lock_phase b log ≡ Holding lock t → a ≡ b

-- simulation: a legal words log is a legal list of actions. Its tickets, modulo 2^64, determine the
-- ticket indices
abbrev pub TicketsTellIndices : Type 0 → Type 0
TicketsTellIndices M =
    (log : List (Event M)) → IsLegalWords log → AreLegal (acts_of (λ (m : M). m) log)

-- the next three actions of a resting CPU at a free lock, without others between, are one section,
-- of this name, and leave the lock free
abbrev pub IsOneSection : {N : Type 0} → CpuId → LockId → N → List (Action N) → Type 0
IsOneSection cpu lock name past =
    let first = next_action cpu lock name past in
    let second = next_action cpu lock name (first ∷ past) in
    let third = next_action cpu lock name (second ∷ first ∷ past) in
    (first ≡ Take cpu lock) × (second ≡ Try cpu lock true) × (third ≡ Give cpu lock name)
    × (sections_in (third ∷ second ∷ first ∷ past)
    ≡ record { cpu = cpu; lock = lock; edit = name } ∷ sections_in past)
    × IsFree lock (third ∷ second ∷ first ∷ past)

-- three actions of a CPU without others between are exactly one section
abbrev pub ThreeAreOneSection : Type 0 → Type 0
ThreeAreOneSection N = (cpu : CpuId) (lock : LockId) (name : N) (past : List (Action N))
    → phase cpu past ≡ Rests → IsFree lock past → IsOneSection cpu lock name past

-- every lock is free if each CPU of the machine rests, and only then
abbrev pub FreeWhereAllRest : Type 0 → Type 0
FreeWhereAllRest N = (actions : List (Action N)) → AreLegal actions
    → ((c : CpuId) → c.0 < CPUS → phase c actions ≡ Rests) ↔ AreFree actions

-- each of these actions is a poll
abbrev pub OnlyTries : {N : Type 0} → List (Action N) → Type 0
OnlyTries [] = Unit {0}
OnlyTries (Take cpu lock ∷ past) = ⊥
OnlyTries (Try cpu lock hit ∷ past) = OnlyTries past
OnlyTries (Give cpu lock name ∷ past) = ⊥

-- bounded bypass, per CPU: from a CPU's request on, while it only polls, no other CPU releases that
-- lock twice
abbrev pub GivenOnceMeanwhile : Type 0 → Type 0
GivenOnceMeanwhile N = (past between : List (Action N)) (cpu other : CpuId) (lock : LockId)
    → AreLegal (between ++ (Take cpu lock ∷ past))
    → OnlyTries (own_events cpu_of_action cpu between) → same_cpu cpu other ≡ false
    → gives lock (own_events cpu_of_action other between) ≤ 1

-- bounded bypass: from a CPU's request on, while it only polls, the lock is released fewer than
-- CPUS times
abbrev pub BoundedBypass : Type 0 → Type 0
BoundedBypass N = (past between : List (Action N)) (cpu : CpuId) (lock : LockId)
    → AreLegal (between ++ (Take cpu lock ∷ past))
    → OnlyTries (own_events cpu_of_action cpu between) → gives lock between < CPUS

-- each of these events is a poll of `serving`
abbrev pub OnlyLooks : {M : Type 0} → List (Event M) → Type 0
OnlyLooks [] = Unit {0}
OnlyLooks (Draw cpu lock ticket ∷ past) = ⊥
OnlyLooks (Look cpu lock ticket read ∷ past) = OnlyLooks past
OnlyLooks (Free cpu lock mark ∷ past) = ⊥

-- bounded bypass of a ticket lock, per CPU: from a CPU's Draw on, while it only polls, no other CPU
-- frees that lock twice
abbrev pub FreedOnceMeanwhile : Type 0 → Type 0
FreedOnceMeanwhile M =
    (past between : List (Event M)) (cpu other : CpuId) (lock : LockId) (ticket : ℕ)
    → IsLegalWords (between ++ (Draw cpu lock ticket ∷ past))
    → OnlyLooks (own_events cpu_of_event cpu between) → same_cpu cpu other ≡ false
    → frees lock (own_events cpu_of_event other between) ≤ 1
