-- The frame condition: a call that leaves the machine unchanged leaves all that is framed.
use Rattle.std.proofs.Common.{ℕ, ◌+◌, ◌≤◌, List, Option, ap, arith, refl}
use Rattle.{event_log.specs.declared.ids.{CpuId.CpuId, LockId.LockId}, layer_traits.specs.Polling.Framed.Stays}

one_less : (n : ℕ) → n ≤ n + 1
one_less n = omega arith

pub untouched_stays : {M B : Type 0} (opening_of : M → LockId → Option B) (site_of : M → List ℕ) (room_of : M → ℕ) (ActsFor : M → CpuId → Type 0) (m : M)
    → Stays opening_of site_of room_of ActsFor m m
untouched_stays opening_of site_of room_of ActsFor m = record { opening = refl; machine_id = refl; room = one_less (room_of m); acts = λ c acts. acts }

-- what stays in the lower layer stays under another view of the blocks
pub viewed_stays : {M B C : Type 0} (view : (LockId → Option B) → LockId → Option C) {opening_of : M → LockId → Option B} {site_of : M → List ℕ}
    {room_of : M → ℕ} {ActsFor : M → CpuId → Type 0} {m n : M} → Stays opening_of site_of room_of ActsFor m n
    → Stays (λ k. view (opening_of k)) site_of room_of ActsFor m n
viewed_stays view stays = record { opening = ap view stays.opening; machine_id = stays.machine_id; room = stays.room; acts = stays.acts }
