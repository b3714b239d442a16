-- Tests whether two CPUs or two locks are one.
use Rattle.std.proofs.{Common.{◌≡◌, ◌≢◌, ℕ, true, false, refl, ap, arith}, lemmas.Bool.{eq-eqb, eqb-true}}
use Rattle.event_log.specs.{declared.ids.{BufId.BufId, CpuId.CpuId, LockId.{LockId, TheVariants.{Pending, Buffer}}}, History.{same_cpu, same_lock}}
use Rattle.event_log.specs.Locks.{lock_number}

abbrev pub cpu_numbered : ℕ → CpuId
cpu_numbered n = record { 0 = n }

abbrev pub buffer_numbered : ℕ → BufId
buffer_numbered n = record { 0 = n }

pub same_cpu_self : (a : CpuId) → same_cpu a a ≡ true
same_cpu_self a = eq-eqb a.0 a.0 refl

pub same_cpu_true : (a b : CpuId) → same_cpu a b ≡ true → a ≡ b
same_cpu_true a b same = ap cpu_numbered (eqb-true a.0 b.0 same)

pub same_lock_self : (a : LockId) → same_lock a a ≡ true
same_lock_self (Pending a) = same_cpu_self a
same_lock_self (Buffer a) = eq-eqb a.0 a.0 refl

pub same_lock_true : (a b : LockId) → same_lock a b ≡ true → a ≡ b
same_lock_true a b same = grind (arith, eqb-true)

-- two locks with one number are one lock
pub lock_number_same : (a b : LockId) → lock_number a ≡ lock_number b → same_lock a b ≡ true
lock_number_same a b e = grind (arith, eq-eqb)

pub lock_number_other : (a b : LockId) → same_lock a b ≡ false → lock_number a ≢ lock_number b
lock_number_other a b other e = let same : same_lock a b ≡ true = lock_number_same a b e in cc
