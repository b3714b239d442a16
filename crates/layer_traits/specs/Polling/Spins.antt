-- What consecutive failed polls leave: only the log has changed, and no other CPU has acted.
use Rattle.std.specs.Prelude.{◌≡◌, ℕ, ◌+◌, ◌<◌, ◌≤◌, false, List, ◌++◌, Option, length, replicate}
use Rattle.std.specs.Prelude.{take}
use Rattle.event_log.specs.{declared.ids.{CpuId.CpuId, LockId.LockId}, Actions.{Action, Try, Waits}}
use Rattle.event_log.specs.Actions.{phase}

-- the steps begin with so many of this CPU
pub record BeginWith (cpu : CpuId) (looks : ℕ) (steps : List CpuId) : Type 0 where
  pub few : looks ≤ length steps
  pub first : take looks steps ≡ replicate looks cpu

-- so many failed polls took the machine m to n: the same opening blocks, the same machine, the same
-- events, and room for all events except theirs. The machine's holder acts for each CPU for which
-- it acted, each part that agreed with the machine still does, and no CPU begins to hold a lock
pub record Spun {P M B E : Type 0} (Coupled : P → M → Type 0) (opening_of : M → LockId → Option B)
    (site_of : M → List ℕ) (seen_of : M → List E)
    (room_of : M → ℕ) (ActsFor MayHold : M → CpuId → Type 0) (looks : ℕ) (m n : M) : Type 0 where
  pub opening : opening_of n ≡ opening_of m
  pub machine_id : site_of n ≡ site_of m
  pub history : seen_of n ≡ seen_of m
  pub room : room_of m ≤ room_of n + looks
  pub acts : (c : CpuId) → ActsFor m c → ActsFor n c
  pub coupled : (p : P) → Coupled p m → Coupled p n
  pub holders : (c : CpuId) → MayHold n c → MayHold m c

-- the CPU tried so many times to enter the lock at which it waits, and failed each time
pub record Misses {N : Type 0} (cpu : CpuId) (looks : ℕ) (old new : List (Action N)) : Type 0 where
  pub lock : LockId
  pub waits : 0 < looks → phase cpu old ≡ Waits lock
  pub grows : new ≡ replicate looks (Try cpu lock false) ++ old
