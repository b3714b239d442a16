-- Places: where each thread is, as a function of neutral moves, newest first. A thread exists
-- exactly if it has a home; no edit, no block and no lock word is named here. A CPU's private
-- scheduling state agrees with the places by count.
use Rattle.std.specs.Prelude.{◌≡◌, ◌≢◌, ℕ, ◌+◌, Bool, true, false, ◌&&◌, List, [], ◌∷◌, ◌++◌}
use Rattle.std.specs.{Prelude.{Option, Some, None, MatchOption, if◌then◌else◌}, List.slice_get}
use Rattle.event_log.specs.{declared.ids.{CpuId.CpuId, LockId.LockId, Tid.Tid}, History.same_cpu}
use Rattle.{event_log.specs.History.IsLawful, thread_blocks.specs.Queues.same_tid}
use Rattle.layer_traits.specs.declared.moves.WaitList.{WaitList}

-- the home of a thread (its CPU affinity), in the list of the homes of all threads; a thread
-- without one does not exist
abbrev pub home_of : List CpuId → Tid → Option CpuId
home_of homes t = slice_get homes t.0

-- whether it is this CPU
abbrev pub is_cpu : CpuId → Option CpuId → Bool
is_cpu c None = false
is_cpu c (Some d) = same_cpu c d

-- whether it is this thread
abbrev pub is_thread : Tid → Option Tid → Bool
is_thread t None = false
is_thread t (Some u) = same_tid u t

-- a wait channel, on which a thread sleeps: one waiting list of what a lock guards
pub data WaitChannel : Type 0 where
  At : (lock : LockId) (wait_list : WaitList) → WaitChannel

-- where a thread is: with the CPU that is its home, in the hand of a CPU that woke it, in a CPU's
-- pending queue, or asleep
pub data Where : Type 0 where
  Home : Where
  Hand : (cpu : CpuId) → Where
  IsPending : (queue : CpuId) → Where
  Asleep : (wait_channel : WaitChannel) → Where

-- what an event may do to places: push a thread into a pending queue, take all of one, edit what a
-- lock guards, or nothing. By an edit the caller may go to sleep in a waiting list and a sleeper
-- may be woken
pub data Move : Type 0 where
  Pushed : (queue : CpuId) (thread : Tid) → Move
  Took : (queue : CpuId) → Move
  Moved : (lock : LockId) (caller : Tid) (slept : Option WaitList) (woke : Option Tid) → Move
  Still : Move

-- a move, and the CPU that made it
pub record Step : Type 0 where
  pub cpu : CpuId
  pub move : Move

-- the step of this CPU with this move
abbrev pub step_with : CpuId → Move → Step
step_with cpu move = record { cpu = cpu; move = move }

-- the CPU that made a step
abbrev pub cpu_of_step : Step → CpuId
cpu_of_step s = s.cpu

-- where a woken thread is: on its home CPU if that is the waker, otherwise in the waker's hand
abbrev pub where_woken : CpuId → Option CpuId → Where
where_woken c home = if is_cpu c home then Home else Hand c

-- where a thread is after all of a pending queue was taken: a thread that was pending there is on
-- its home CPU
abbrev pub where_taken : CpuId → Where → Where
where_taken d Home = Home
where_taken d (Hand c) = Hand c
where_taken d (IsPending c) = if same_cpu d c then Home else IsPending c
where_taken d (Asleep p) = Asleep p

-- where the caller of an edit is after it: asleep in the waiting list that it joined, if it joined
-- one
abbrev pub where_slept : LockId → Option WaitList → Where → Where
where_slept lock None w = w
where_slept lock (Some wait_list) w = Asleep (At lock wait_list)

-- where a thread is after a move of this CPU
abbrev pub where_after : List CpuId → CpuId → Move → Tid → Where → Where
where_after homes c (Pushed d u) t w = if same_tid u t then IsPending d else w
where_after homes c (Took d) t w = where_taken d w
where_after homes c (Moved lock caller slept woke) t w =
    if is_thread t woke then where_woken c (home_of homes t)
    else (if same_tid caller t then where_slept lock slept w else w)
where_after homes c Still t w = w

-- where a thread is after these steps; at boot each is on its home CPU
abbrev pub where_is : List CpuId → List Step → Tid → Where
where_is homes [] t = Home
where_is homes (s ∷ past) t = where_after homes s.cpu s.move t (where_is homes past t)

-- the wait channel on which a thread sleeps, if it does
abbrev pub wait_channel_of : Where → Option WaitChannel
wait_channel_of (Asleep p) = Some p
wait_channel_of w = None

-- whether there is a wait channel
abbrev pub is_wait_channel : Option WaitChannel → Bool
is_wait_channel None = false
is_wait_channel (Some p) = true

-- whether it is asleep
abbrev pub is_asleep : Where → Bool
is_asleep w = is_wait_channel (wait_channel_of w)

-- whether it is on its home CPU
abbrev pub is_home : Where → Bool
is_home Home = true
is_home w = false

-- whether it is in the hand of this CPU
abbrev pub is_hand : CpuId → Where → Bool
is_hand c (Hand d) = same_cpu d c
is_hand c w = false

-- whether it is in the pending queue of this CPU
abbrev pub is_pend : CpuId → Where → Bool
is_pend c (IsPending d) = same_cpu d c
is_pend c w = false

-- the pending queue of a CPU after a move
abbrev pub pending_after : Move → CpuId → List Tid → List Tid
pending_after (Pushed d t) c queue = if same_cpu d c then queue ++ t ∷ [] else queue
pending_after (Took d) c queue = if same_cpu d c then [] else queue
pending_after (Moved lock caller slept woke) c queue = queue
pending_after Still c queue = queue

-- the pending queue of a CPU after these steps, front first; at boot it is empty
abbrev pub pending_by : List Step → CpuId → List Tid
pending_by [] c = []
pending_by (s ∷ past) c = pending_after s.move c (pending_by past c)

-- a CPU may edit for a caller: the CPU is the caller's home, the caller is there, and the CPU's
-- hand is empty
pub record MayEditFor (homes : List CpuId) (past : List Step) (c : CpuId) (caller : Tid) : Type
    0 where
  pub at_home : where_is homes past caller ≡ Home
  pub home : home_of homes caller ≡ Some c
  pub empty : (t : Tid) → where_is homes past t ≢ Hand c

-- a CPU may push a thread into a pending queue: the thread is in its hand, and the queue is that of
-- the thread's home
pub record MayPush (homes : List CpuId) (past : List Step) (c d : CpuId) (t : Tid) : Type 0 where
  pub held : where_is homes past t ≡ Hand c
  pub home : home_of homes t ≡ Some d

-- a CPU may make a move after these steps: it takes only its own queue, and a thread that it wakes
-- is asleep
abbrev pub MayMove : List CpuId → List Step → CpuId → Move → Type 0
MayMove homes past c (Pushed d t) = MayPush homes past c d t
MayMove homes past c (Took d) = d ≡ c
MayMove homes past c (Moved lock caller slept woke) =
    MayEditFor homes past c caller
    × MatchOption woke (Unit {0}) (λ u. is_asleep (where_is homes past u) ≡ true)
MayMove homes past c Still = Unit {0}

-- each of these steps may follow those before it
abbrev pub AreMoves : List CpuId → List Step → Type 0
AreMoves homes moves = IsLawful (λ past s. MayMove homes past s.cpu s.move) moves

-- a CPU's private scheduling state: the thread that runs, a woken thread whose home is another CPU,
-- the ready threads, front first, and those that have ended
pub record Threads : Type 0 where
  pub current : Option Tid
  pub hand : Option Tid
  pub ready : List Tid
  pub ended : List Tid

-- 1 if the test holds
abbrev pub one_if : Bool → ℕ
one_if true = 1
one_if false = 0

-- how often a thread is in a list
abbrev pub count_in : Tid → List Tid → ℕ
count_in t [] = 0
count_in t (x ∷ queue) = one_if (same_tid t x) + count_in t queue

-- how often a CPU has a thread: running, ready or ended
abbrev pub copies : Threads → Tid → ℕ
copies local t =
    one_if (is_thread t local.current) + count_in t local.ready + count_in t local.ended

-- whether a thread is on its home CPU and this CPU is its home
abbrev pub is_here : List CpuId → CpuId → List Step → Tid → Bool
is_here homes c moves t = is_cpu c (home_of homes t) && is_home (where_is homes moves t)

-- a CPU's private state agrees with the places. It has each thread that is on this home CPU once,
-- and no other, and in its hand exactly the thread whose place is there
pub record Stands (homes : List CpuId) (c : CpuId) (moves : List Step) (local : Threads) : Type
    0 where
  pub places : (t : Tid) → copies local t ≡ one_if (is_here homes c moves t)
  pub hand : (t : Tid) → is_thread t local.hand ≡ is_hand c (where_is homes moves t)

-- the threads whose home this CPU is, in the order of their numbers, if the list of homes begins at
-- thread n
abbrev pub homed : CpuId → ℕ → List CpuId → List Tid
homed c n [] = []
homed c n (home ∷ homes) =
    if same_cpu c home then record { 0 = n } ∷ homed c (n + 1) homes else homed c (n + 1) homes

-- a CPU's private state at boot: all its threads are ready
abbrev pub at_boot : List CpuId → CpuId → Threads
at_boot homes c = record { current = None; hand = None; ready = homed c 0 homes; ended = [] }
