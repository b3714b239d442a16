-- The words log: Draws, Looks and Frees of ticket locks, newest first, and which such logs are
-- legal. A Look is one poll of the word `serving`.
use Rattle.std.specs.Prelude.{◌≡◌, ℕ, ◌%◌, ◌^◌, ◌<◌, Bool, false, List, [], ◌∷◌, ◌==◌}
use Rattle.std.specs.Prelude.{if◌then◌else◌}
use Rattle.event_log.specs.declared.ids.{CpuId.CpuId, LockId.LockId, TheConstants.CPUS}
use Rattle.event_log.specs.declared.events.Event.{Event, TheVariants.{Draw, Look, Free}}
use Rattle.event_log.specs.History.{same_cpu, same_lock, how_many, IsLawful}

-- the CPU that acts
abbrev pub cpu_of_event : {M : Type 0} → Event M → CpuId
cpu_of_event (Draw cpu lock ticket) = cpu
cpu_of_event (Look cpu lock ticket read) = cpu
cpu_of_event (Free cpu lock mark) = cpu

-- whether the event draws at this lock
abbrev pub is_draw : {M : Type 0} → LockId → Event M → Bool
is_draw lock (Draw cpu at ticket) = same_lock lock at
is_draw lock (Look cpu at ticket read) = false
is_draw lock (Free cpu at mark) = false

-- whether the event frees this lock
abbrev pub is_free : {M : Type 0} → LockId → Event M → Bool
is_free lock (Draw cpu at ticket) = false
is_free lock (Look cpu at ticket read) = false
is_free lock (Free cpu at mark) = same_lock lock at

-- how often this lock was drawn at: the true count, which the word `next` holds modulo 2^64
abbrev pub draws : {M : Type 0} → LockId → List (Event M) → ℕ
draws lock past = how_many (is_draw lock) past

-- how often this lock was freed: the true count, which the word `serving` holds modulo 2^64
abbrev pub frees : {M : Type 0} → LockId → List (Event M) → ℕ
frees lock past = how_many (is_free lock) past

-- where a CPU is: outside every section, waiting at a lock with its ticket, or inside the lock that
-- it entered with it
pub data LockPhase : Type 0 where
  Idle : LockPhase
  Waiting : (lock : LockId) (ticket : ℕ) → LockPhase
  Holding : (lock : LockId) (ticket : ℕ) → LockPhase

-- where an event leaves the CPU that acts: a Look succeeds if it reads its ticket
abbrev pub left_by : {M : Type 0} → Event M → LockPhase
left_by (Draw cpu lock ticket) = Waiting lock ticket
left_by (Look cpu lock ticket read) =
    if read == ticket then Holding lock ticket else Waiting lock ticket
left_by (Free cpu lock mark) = Idle

-- where a CPU is, according to its newest event
abbrev pub lock_phase : {M : Type 0} → CpuId → List (Event M) → LockPhase
lock_phase cpu [] = Idle
lock_phase cpu (e ∷ past) = if same_cpu (cpu_of_event e) cpu then left_by e else lock_phase cpu past

-- the event may follow this past. A CPU of the machine draws while it is outside, and its ticket is
-- the number of earlier draws. While it waits it polls, and reads the number of earlier frees.
-- While it is inside it may free.
abbrev pub MayFollow : {M : Type 0} → List (Event M) → Event M → Type 0
MayFollow past (Draw cpu lock ticket) =
    (cpu.0 < CPUS) × (lock_phase cpu past ≡ Idle) × (ticket ≡ draws lock past % 2 ^ 64)
MayFollow past (Look cpu lock ticket read) =
    (lock_phase cpu past ≡ Waiting lock ticket) × (read ≡ frees lock past % 2 ^ 64)
MayFollow past (Free cpu lock mark) = (ticket : ℕ) × (lock_phase cpu past ≡ Holding lock ticket)

-- a legal words log
abbrev pub IsLegalWords : {M : Type 0} → List (Event M) → Type 0
IsLegalWords log = IsLawful MayFollow log
