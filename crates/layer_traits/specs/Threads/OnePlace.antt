-- Each thread has exactly one place: over all CPUs, how often a thread runs or is ready, is in a
-- hand, is pending, sleeps or has ended.
use Rattle.std.specs.Prelude.{◌≡◌, ℕ, zero, suc, ◌+◌, ◌<◌, List, Some, is_some}
use Rattle.event_log.specs.declared.ids.{CpuId.CpuId, Tid.Tid}
use Rattle.layer_traits.specs.Threads.Places.{Step, Threads, Stands, AreMoves, home_of, is_thread}
use Rattle.layer_traits.specs.Threads.Places.{is_asleep, where_is, pending_by, one_if, count_in}

-- the sum of f over the numbers below n
abbrev pub total : (ℕ → ℕ) → ℕ → ℕ
total f zero = 0
total f (suc n) = total f n + f n

-- the CPU of this number
abbrev pub cpu_at : ℕ → CpuId
cpu_at k = record { 0 = k }

-- how often a thread runs or is ready with one of n CPUs
abbrev pub running : (ℕ → Threads) → ℕ → Tid → ℕ
running local n t =
    total (λ k. one_if (is_thread t (local k).current) + count_in t (local k).ready) n

-- how often a thread is in the hand of one of n CPUs
abbrev pub in_any_hand : (ℕ → Threads) → ℕ → Tid → ℕ
in_any_hand local n t = total (λ k. one_if (is_thread t (local k).hand)) n

-- how often a thread is in the pending queue of one of n CPUs
abbrev pub pending : List Step → ℕ → Tid → ℕ
pending moves n t = total (λ k. count_in t (pending_by moves (cpu_at k))) n

-- how often a thread has ended with one of n CPUs
abbrev pub over : (ℕ → Threads) → ℕ → Tid → ℕ
over local n t = total (λ k. count_in t (local k).ended) n

-- all of a machine agrees with the places. Each home is one of its n CPUs, the moves are allowed,
-- and each CPU's private state agrees with the places. A thread is among the sleepers as often as
-- its place says
pub record AllStand (homes : List CpuId) (n : ℕ) (moves : List Step) (local : ℕ → Threads)
    (sleeping : Tid → ℕ) : Type 0 where
  pub homes_within : (t : Tid) (home : CpuId) → home_of homes t ≡ Some home → home.0 < n
  pub moves_are : AreMoves homes moves
  pub stand : (k : ℕ) → k < n → Stands homes (cpu_at k) moves (local k)
  pub sleep : (t : Tid) → sleeping t ≡ one_if (is_asleep (where_is homes moves t))

-- a thread that exists occurs once among all places, and one that does not exist occurs nowhere
abbrev pub InOnePlace : List CpuId → ℕ → List Step → (ℕ → Threads) → (Tid → ℕ) → Tid → Type 0
InOnePlace homes n moves local sleeping t =
    running local n t + in_any_hand local n t + pending moves n t + sleeping t + over local n t
    ≡ one_if (is_some (home_of homes t))

-- if all of a machine agrees with the places, each thread has exactly one of them
abbrev pub OnePlace : Type 0
OnePlace =
    (homes : List CpuId) (n : ℕ) (moves : List Step) (local : ℕ → Threads) (sleeping : Tid → ℕ)
    → AllStand homes n moves local sleeping → (t : Tid) → InOnePlace homes n moves local sleeping t
