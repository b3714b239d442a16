-- The frame condition: what a call of a layer leaves unchanged. It is the same in each trait of a
-- layer, and is therefore stated once.
use Rattle.std.specs.Prelude.{◌≡◌, ◌≢◌, ℕ, ◌+◌, ◌≤◌, List, Option}
use Rattle.event_log.specs.declared.ids.{CpuId.CpuId, LockId.LockId}

-- the machine m became n. The opening blocks and the machine are the same, and there is room for at
-- most one event less. Its holder still acts for each CPU for which it acted
pub record Stays {M B : Type 0} (opening_of : M → LockId → Option B) (site_of : M → List ℕ)
    (room_of : M → ℕ) (ActsFor : M → CpuId → Type 0)
    (m n : M) : Type 0 where
  pub opening : opening_of n ≡ opening_of m
  pub machine_id : site_of n ≡ site_of m
  pub room : room_of m ≤ room_of n + 1
  pub acts : (c : CpuId) → ActsFor m c → ActsFor n c

-- a call of a part: part and machine agree again, the part is that of the same CPU, and the machine
-- stays. The parts of all other CPUs still agree with it, and no other CPU for which its holder
-- acts begins to hold a lock
pub record Framed {P M B : Type 0} (Coupled : P → M → Type 0) (cpu_of : P → CpuId)
    (opening_of : M → LockId → Option B) (site_of : M → List ℕ)
    (room_of : M → ℕ) (ActsFor MayHold : M → CpuId → Type 0) (old new : P) (m n : M) : Type 0 where
  pub coupled : Coupled new n
  pub cpu : cpu_of new ≡ cpu_of old
  pub stays : Stays opening_of site_of room_of ActsFor m n
  pub others : (p : P) → cpu_of p ≢ cpu_of old → Coupled p m → Coupled p n
  pub holders : (c : CpuId) → c ≢ cpu_of old → ActsFor m c → MayHold n c → MayHold m c
