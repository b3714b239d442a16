-- The log of locks with a grant word for each waiter, newest first, and which such logs are legal.
use Rattle.std.specs.Prelude.{◌≡◌, ℕ, ◌+◌, ◌%◌, ◌^◌, ◌<◌, ◌≤◌, Bool, false, List, [], ◌∷◌, ◌==◌}
use Rattle.std.specs.Prelude.{map, if◌then◌else◌}
use Rattle.event_log.specs.declared.ids.{CpuId.CpuId, LockId.LockId, TheConstants.CPUS}
use Rattle.event_log.specs.declared.grants.GrantEvent.{GrantEvent, TheVariants.{Take, Peek, Give}}
use Rattle.event_log.specs.{History.{same_cpu, same_lock, how_many, IsLawful}, WordsLog.LockPhase}
use Rattle.event_log.specs.{WordsLog.{Idle, Waiting, Holding}, Actions.{Action, Take as TakePlace}}
use Rattle.event_log.specs.Actions.{Try as TryEntry, Give as GiveOn, AreLegal}

-- the CPU that acts
abbrev pub cpu_of_grant : {M : Type 0} → GrantEvent M → CpuId
cpu_of_grant (Take cpu lock ticket) = cpu
cpu_of_grant (Peek cpu lock ticket read) = cpu
cpu_of_grant (Give cpu lock mark) = cpu

-- whether the event takes a ticket of this lock
abbrev pub is_ticket : {M : Type 0} → LockId → GrantEvent M → Bool
is_ticket lock (Take cpu at ticket) = same_lock lock at
is_ticket lock (Peek cpu at ticket read) = false
is_ticket lock (Give cpu at mark) = false

-- how many tickets of this lock were taken: the true count, which the word `next` holds modulo 2^64
abbrev pub tickets : {M : Type 0} → LockId → List (GrantEvent M) → ℕ
tickets lock past = how_many (is_ticket lock) past

-- where an event leaves the CPU that acts: a Peek succeeds if it reads its ticket plus 1
abbrev pub left_by_grant : {M : Type 0} → GrantEvent M → LockPhase
left_by_grant (Take cpu lock ticket) = Waiting lock ticket
left_by_grant (Peek cpu lock ticket read) =
    if read == (ticket + 1) % 2 ^ 64 then Holding lock ticket else Waiting lock ticket
left_by_grant (Give cpu lock mark) = Idle

-- where a CPU is, according to its newest event
abbrev pub grant_lock_phase : {M : Type 0} → CpuId → List (GrantEvent M) → LockPhase
grant_lock_phase cpu [] = Idle
grant_lock_phase cpu (e ∷ past) =
    if same_cpu (cpu_of_grant e) cpu then left_by_grant e else grant_lock_phase cpu past

-- the ticket that a CPU holds; 0 if it holds none
abbrev pub ticket_in : LockPhase → ℕ
ticket_in Idle = 0
ticket_in (Waiting lock ticket) = ticket
ticket_in (Holding lock ticket) = ticket

-- what a Give of this ticket leaves in a grant word: the ticket plus 2 in the next ticket's word,
-- and each other word unchanged
abbrev pub after_give : ℕ → ℕ → ℕ → ℕ
after_give ticket word was = if word == (ticket + 1) % CPUS then (ticket + 2) % 2 ^ 64 else was

-- a grant word of a lock: at the start the first one holds 1 and the others 0; each Give of the
-- lock stores in one
abbrev pub grant_word : {M : Type 0} → LockId → ℕ → List (GrantEvent M) → ℕ
grant_word lock word [] = if word == 0 then 1 else 0
grant_word lock word (Take cpu at ticket ∷ past) = grant_word lock word past
grant_word lock word (Peek cpu at ticket read ∷ past) = grant_word lock word past
grant_word lock word (Give cpu at mark ∷ past) =
    if same_lock lock at
    then after_give (ticket_in (grant_lock_phase cpu past)) word (grant_word lock word past)
    else grant_word lock word past

-- the event may follow this past. A CPU of the machine takes a ticket while it is outside: the
-- number of tickets taken before. While it waits it peeks, and reads its ticket's grant word. While
-- it is inside it may release the lock.
abbrev pub MayFollowGrants : {M : Type 0} → List (GrantEvent M) → GrantEvent M → Type 0
MayFollowGrants past (Take cpu lock ticket) =
    (cpu.0 < CPUS) × (grant_lock_phase cpu past ≡ Idle) × (ticket ≡ tickets lock past % 2 ^ 64)
MayFollowGrants past (Peek cpu lock ticket read) =
    (grant_lock_phase cpu past ≡ Waiting lock ticket)
    × (read ≡ grant_word lock (ticket % CPUS) past)
MayFollowGrants past (Give cpu lock mark) =
    (ticket : ℕ) × (grant_lock_phase cpu past ≡ Holding lock ticket)

-- a legal log of grant words
abbrev pub IsLegalGrants : {M : Type 0} → List (GrantEvent M) → Type 0
IsLegalGrants log = IsLawful MayFollowGrants log

-- an event of such a lock as an action, its section named by its mark
abbrev pub act_of_grant : {M N : Type 0} → (M → N) → GrantEvent M → Action N
act_of_grant name (Take cpu lock ticket) = TakePlace cpu lock
act_of_grant name (Peek cpu lock ticket read) = TryEntry cpu lock (read == (ticket + 1) % 2 ^ 64)
act_of_grant name (Give cpu lock mark) = GiveOn cpu lock (name mark)

-- a log of grant words as actions
abbrev pub acts_of_grants : {M N : Type 0} → (M → N) → List (GrantEvent M) → List (Action N)
acts_of_grants name log = map (act_of_grant name) log

-- simulation: a legal log of grant words is a legal list of actions. A word says exactly which
-- ticket index is served
abbrev pub GrantsTellIndices : Type 0 → Type 0
GrantsTellIndices M =
    (log : List (GrantEvent M)) → IsLegalGrants log → AreLegal (acts_of_grants (λ (m : M). m) log)

-- mutual exclusion: two CPUs are never inside one lock, whatever their tickets are
abbrev pub MutualExclusionGrants : Type 0 → Type 0
MutualExclusionGrants M =
    (log : List (GrantEvent M)) → IsLegalGrants log → (a b : CpuId) (lock : LockId) (s t : ℕ)
    → grant_lock_phase a log ≡ Holding lock s → grant_lock_phase b log ≡ Holding lock t → a ≡ b

-- What a grant word holds after `given` releases of a lock: it admits the latest ticket index k
-- that was assigned to it. It holds 0 as long as none was.
pub record WordFits (word given held : ℕ) : Type 0 where
  pub written : word ≤ given
      → (k : ℕ) × (k ≤ given) × (given < k + CPUS) × (k % CPUS ≡ word) × (held ≡ (k + 1) % 2 ^ 64)
  pub unwritten : given < word → held ≡ 0
