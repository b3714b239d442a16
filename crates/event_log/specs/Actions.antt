-- What the log of any FIFO lock says, whatever the lock's words are: which CPU requested a lock
-- (Take), polled it (Try) and released it (Give). A Give carries the name of the section that it
-- ends. Lists are newest first, and numbers are not modulo 2^64.
use Rattle.std.specs.Prelude.{◌≡◌, ℕ, ◌<◌, Bool, false, List, [], ◌∷◌, ◌==◌, map, if◌then◌else◌}
use Rattle.event_log.specs.declared.ids.{CpuId.CpuId, LockId.LockId, TheConstants.CPUS}
use Rattle.event_log.specs.declared.events.Event.{Event, TheVariants.{Draw, Look, Free}}
use Rattle.event_log.specs.History.{same_cpu, same_lock, how_many, IsLawful}

-- an action at a lock: a request, which takes a place in its queue; a poll, which tries to enter;
-- or a release, by a section of this name
pub data Action (N : Type 0) : Type 0 where
  Take : (cpu : CpuId) (lock : LockId) → Action N
  Try : (cpu : CpuId) (lock : LockId) (hit : Bool) → Action N
  Give : (cpu : CpuId) (lock : LockId) (name : N) → Action N

-- the CPU that acts
abbrev pub cpu_of_action : {N : Type 0} → Action N → CpuId
cpu_of_action (Take cpu lock) = cpu
cpu_of_action (Try cpu lock hit) = cpu
cpu_of_action (Give cpu lock name) = cpu

-- the lock that it acts on
abbrev pub lock_of_action : {N : Type 0} → Action N → LockId
lock_of_action (Take cpu lock) = lock
lock_of_action (Try cpu lock hit) = lock
lock_of_action (Give cpu lock name) = lock

-- whether it requests this lock
abbrev pub is_take : {N : Type 0} → LockId → Action N → Bool
is_take lock (Take cpu at) = same_lock lock at
is_take lock (Try cpu at hit) = false
is_take lock (Give cpu at name) = false

-- whether it releases this lock
abbrev pub is_give : {N : Type 0} → LockId → Action N → Bool
is_give lock (Take cpu at) = false
is_give lock (Try cpu at hit) = false
is_give lock (Give cpu at name) = same_lock lock at

-- how often this lock was requested
abbrev pub takes : {N : Type 0} → LockId → List (Action N) → ℕ
takes lock past = how_many (is_take lock) past

-- how often this lock was released
abbrev pub gives : {N : Type 0} → LockId → List (Action N) → ℕ
gives lock past = how_many (is_give lock) past

-- what a CPU does: it rests, waits at a lock or holds it
pub data Phase : Type 0 where
  Rests : Phase
  Waits : (lock : LockId) → Phase
  Holds : (lock : LockId) → Phase

-- what an action leaves its CPU to do
abbrev pub phase_after : {N : Type 0} → Action N → Phase
phase_after (Take cpu lock) = Waits lock
phase_after (Try cpu lock hit) = if hit then Holds lock else Waits lock
phase_after (Give cpu lock name) = Rests

-- what a CPU does, according to its newest action
abbrev pub phase : {N : Type 0} → CpuId → List (Action N) → Phase
phase cpu [] = Rests
phase cpu (a ∷ past) = if same_cpu (cpu_of_action a) cpu then phase_after a else phase cpu past

-- the ticket index of a CPU: how often the lock had been requested before the CPU's last request
abbrev pub ticket_index_of : {N : Type 0} → CpuId → List (Action N) → ℕ
ticket_index_of cpu [] = 0
ticket_index_of cpu (Take by lock ∷ past) =
    if same_cpu by cpu then takes lock past else ticket_index_of cpu past
ticket_index_of cpu (Try by lock hit ∷ past) = ticket_index_of cpu past
ticket_index_of cpu (Give by lock name ∷ past) = ticket_index_of cpu past

-- the action may follow this past. A CPU of the machine requests a lock while it rests. While it
-- waits it polls, and enters exactly if the lock has been released as often as its ticket index
-- says. While it holds the lock it may release it.
abbrev pub MayAct : {N : Type 0} → List (Action N) → Action N → Type 0
MayAct past (Take cpu lock) = (cpu.0 < CPUS) × (phase cpu past ≡ Rests)
MayAct past (Try cpu lock hit) =
    (phase cpu past ≡ Waits lock) × (hit ≡ (gives lock past == ticket_index_of cpu past))
MayAct past (Give cpu lock name) = phase cpu past ≡ Holds lock

-- a legal list of actions
abbrev pub AreLegal : {N : Type 0} → List (Action N) → Type 0
AreLegal actions = IsLawful MayAct actions

-- the lock is free: it was released as often as it was requested
abbrev pub IsFree : {N : Type 0} → LockId → List (Action N) → Type 0
IsFree lock actions = takes lock actions ≡ gives lock actions

-- every lock is free
abbrev pub AreFree : {N : Type 0} → List (Action N) → Type 0
AreFree actions = (lock : LockId) → IsFree lock actions

-- the action that is due to a CPU in this phase: at this lock, and its section will have this name
abbrev pub action_in : {N : Type 0} → CpuId → LockId → N → List (Action N) → Phase → Action N
action_in cpu lock name past Rests = Take cpu lock
action_in cpu lock name past (Waits at) = Try cpu at (gives at past == ticket_index_of cpu past)
action_in cpu lock name past (Holds at) = Give cpu at name

-- the next action of a CPU, according to the past
abbrev pub next_action : {N : Type 0} → CpuId → LockId → N → List (Action N) → Action N
next_action cpu lock name past = action_in cpu lock name past (phase cpu past)

-- the same action, its section under another name
abbrev pub renamed : {N L : Type 0} → (N → L) → Action N → Action L
renamed f (Take cpu lock) = Take cpu lock
renamed f (Try cpu lock hit) = Try cpu lock hit
renamed f (Give cpu lock name) = Give cpu lock (f name)

-- an event of a ticket lock as an action, its section named by its mark
abbrev pub act_of : {M N : Type 0} → (M → N) → Event M → Action N
act_of name (Draw cpu lock ticket) = Take cpu lock
act_of name (Look cpu lock ticket read) = Try cpu lock (read == ticket)
act_of name (Free cpu lock mark) = Give cpu lock (name mark)

-- a words log as actions
abbrev pub acts_of : {M N : Type 0} → (M → N) → List (Event M) → List (Action N)
acts_of name log = map (act_of name) log
