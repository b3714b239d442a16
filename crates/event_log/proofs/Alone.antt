-- A CPU at a free lock, without actions of others: its next three actions are one section, and then
-- the lock is free again.
use Rattle.std.proofs.{Common.{◌≡◌, ◌<◌, Bool, true, List, ◌∷◌, refl, ap, ◌∙◌, arith}, lemmas.Bool.eq-eqb}
use Rattle.event_log.specs.{declared.ids.{CpuId.CpuId, LockId.LockId, TheConstants.CPUS}, Actions.{Action, Take, Try, Give, Phase, Rests, Waits, Holds, phase}}
use Rattle.event_log.{specs.{Actions.{AreLegal, action_in, next_action, IsFree, AreFree}, Laws.IsOneSection}, proofs.Same.{same_cpu_self, same_lock_self}}
use Rattle.event_log.proofs.{Line.{crowd, crowd_absent}, Exclusion.{is_at, phase_own, line_at}}

-- a CPU that rests requests the lock
pub first_action : {N : Type 0} (cpu : CpuId) (lock : LockId) (name : N) (past : List (Action N)) → phase cpu past ≡ Rests
    → next_action cpu lock name past ≡ Take cpu lock
first_action cpu lock name past rests = ap (action_in cpu lock name past) rests

-- at a lock that was free it then enters
pub second_action : {N : Type 0} (cpu : CpuId) (lock : LockId) (name : N) (past : List (Action N)) → IsFree lock past
    → next_action cpu lock name (Take cpu lock ∷ past) ≡ Try cpu lock true
second_action cpu lock name past free = grind (arith, same_cpu_self, eq-eqb, phase_own)

-- and then it releases the lock
pub third_action : {N : Type 0} (cpu : CpuId) (lock : LockId) (name : N) (past : List (Action N))
    → next_action cpu lock name (Try cpu lock true ∷ past) ≡ Give cpu lock name
third_action cpu lock name past = ap (action_in cpu lock name (Try cpu lock true ∷ past)) (phase_own (Try cpu lock true) past)

-- a section leaves a lock as free as it was
pub free_after : {N : Type 0} (cpu : CpuId) (at lock : LockId) (name : N) (hit : Bool) (past : List (Action N)) → IsFree lock past
    → IsFree lock (Give cpu at name ∷ Try cpu at hit ∷ Take cpu at ∷ past)
free_after cpu at lock name hit past free = grind arith

-- if every lock is free, it is so again after a section
pub free_again : {N : Type 0} (cpu : CpuId) (at : LockId) (name : N) (hit : Bool) (past : List (Action N)) → AreFree past
    → AreFree (Give cpu at name ∷ Try cpu at hit ∷ Take cpu at ∷ past)
free_again cpu at name hit past free lock = free_after cpu at lock name hit past (free lock)

-- the next three actions of a resting CPU at a free lock, without others between, are one section
pub three_are_one : {N : Type 0} (cpu : CpuId) (lock : LockId) (name : N) (past : List (Action N)) → phase cpu past ≡ Rests → IsFree lock past
    → IsOneSection cpu lock name past
three_are_one cpu lock name past rests free = grind (arith, first_action, second_action, third_action, free_after)

-- if each CPU of the machine rests, every lock is free
pub free_where_all_rest : {N : Type 0} (actions : List (Action N)) → AreLegal actions → ((c : CpuId) → c.0 < CPUS → phase c actions ≡ Rests) → AreFree actions
free_where_all_rest actions legal rest lock =
    let nobody : crowd (λ c. is_at lock (phase c actions)) CPUS ≡ 0 =
    crowd_absent (λ c. is_at lock (phase c actions)) CPUS (λ c known. ap (is_at lock) (rest c known)) in
    omega (arith, (line_at lock actions legal).balance, nobody)

-- no CPU is at a free lock
pub nobody_where_free : {N : Type 0} (actions : List (Action N)) → AreLegal actions → (lock : LockId) → IsFree lock actions
    → (c : CpuId) → is_at lock (phase c actions) ≡ true → ⊥
nobody_where_free actions legal lock free c there =
    let line = line_at lock actions legal in
    omega (arith, line.ahead c there, line.behind c there, free)

-- if every lock is free, each CPU rests
pub all_rest_where_free : {N : Type 0} (actions : List (Action N)) → AreLegal actions → AreFree actions → (c : CpuId) → phase c actions ≡ Rests
all_rest_where_free actions legal free c = go (phase c actions) refl
  where
    go : (p : Phase) → phase c actions ≡ p → p ≡ Rests
    go Rests is = refl
    go (Waits lock) is = absurd (nobody_where_free actions legal lock (free lock) c (ap (is_at lock) is ∙ same_lock_self lock))
    go (Holds lock) is = absurd (nobody_where_free actions legal lock (free lock) c (ap (is_at lock) is ∙ same_lock_self lock))
