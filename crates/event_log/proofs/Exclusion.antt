-- Mutual exclusion: a legal list of actions keeps the queue at each lock, and two CPUs never hold
-- one lock.
use Rattle.std.proofs.{Common.{◌≡◌, ◌+◌, ◌<◌, ◌≤◌, Bool, true, false, List, [], ◌∷◌, if◌then◌else◌, refl, ap, ◌∙◌, arith}, lemmas.Bool.eqb-true}
use Rattle.event_log.specs.{declared.ids.{CpuId.CpuId, LockId.LockId, TheConstants.CPUS}, History.{same_cpu, same_lock}, Actions.{Action, Take, Try, Give}}
use Rattle.event_log.specs.Actions.{Phase, Rests, Waits, Holds, phase, phase_after, cpu_of_action, ticket_index_of, takes, gives, MayAct, AreLegal}
use Rattle.event_log.proofs.{Same.{same_cpu_self, same_lock_self, same_lock_true}, Line.{Line, crowd_none, crowd_within, line_stays, line_joined, line_left}}

-- whether a CPU in this phase is at the lock
abbrev pub is_at : LockId → Phase → Bool
is_at lock Rests = false
is_at lock (Waits at) = same_lock lock at
is_at lock (Holds at) = same_lock lock at

-- whether a CPU in this phase holds the lock
abbrev pub is_holding : LockId → Phase → Bool
is_holding lock Rests = false
is_holding lock (Waits at) = false
is_holding lock (Holds at) = same_lock lock at

-- the queue at a lock after these actions
abbrev pub LineAt : {N : Type 0} → LockId → List (Action N) → Type 0
LineAt lock actions =
    Line (takes lock actions) (gives lock actions) (λ c. is_at lock (phase c actions)) (λ c. is_holding lock (phase c actions)) (λ c. ticket_index_of c actions)

-- an action changes no other CPU's phase and ticket index
pub phase_other : {N : Type 0} (a : Action N) (past : List (Action N)) (c : CpuId) → same_cpu (cpu_of_action a) c ≡ false → phase c (a ∷ past) ≡ phase c past
phase_other a past c other = ap (λ b. if b then phase_after a else phase c past) other

pub phase_own : {N : Type 0} (a : Action N) (past : List (Action N)) → phase (cpu_of_action a) (a ∷ past) ≡ phase_after a
phase_own a past = ap (λ b. if b then phase_after a else phase (cpu_of_action a) past) (same_cpu_self (cpu_of_action a))

pub spot_other : {N : Type 0} (a : Action N) (past : List (Action N)) (c : CpuId) → same_cpu (cpu_of_action a) c ≡ false
    → ticket_index_of c (a ∷ past) ≡ ticket_index_of c past
spot_other a past c other = grind arith

-- what an action leaves to all others
others_same : {N : Type 0} (lock : LockId) (past : List (Action N)) (a : Action N) (c : CpuId) → same_cpu (cpu_of_action a) c ≡ false
    → (is_at lock (phase c (a ∷ past)) ≡ is_at lock (phase c past)) × (is_holding lock (phase c (a ∷ past)) ≡ is_holding lock (phase c past))
    × (ticket_index_of c (a ∷ past) ≡ ticket_index_of c past)
others_same lock past a c o = (ap (is_at lock) (phase_other a past c o), ap (is_holding lock) (phase_other a past c o), spot_other a past c o)

pub at_either : (lock m : LockId) (hit : Bool) → is_at lock (if hit then Holds m else Waits m) ≡ same_lock lock m
at_either lock m hit = grind arith

holding_if : (lock m : LockId) (hit : Bool) → is_holding lock (if hit then Holds m else Waits m) ≡ true → (hit ≡ true) × (same_lock lock m ≡ true)
holding_if lock m hit h = grind arith

line_take : {N : Type 0} (lock : LockId) (past : List (Action N)) → LineAt lock past → (d : CpuId) (m : LockId)
    → d.0 < CPUS → phase d past ≡ Rests → (b : Bool) → same_lock lock m ≡ b
    → Line (if b then takes lock past + 1 else takes lock past) (gives lock past)
    (λ c. is_at lock (phase c (Take d m ∷ past))) (λ c. is_holding lock (phase c (Take d m ∷ past))) (λ c. ticket_index_of c (Take d m ∷ past))
line_take lock past line d m known rests false elsewhere =
    line_stays line d (others_same lock past (Take d m)) (grind (arith, phase_own, same_cpu_self)) (λ h. grind (arith, phase_own))
    (λ h. grind (arith, phase_own, same_cpu_self))
line_take lock past line d m known rests true here =
    line_joined line d (others_same lock past (Take d m)) known (ap (is_at lock) rests) (grind (arith, phase_own, same_cpu_self))
    (grind (arith, phase_own, same_cpu_self)) (grind (arith, same_cpu_self, same_lock_true))

line_give : {N : Type 0} (lock : LockId) (past : List (Action N)) → LineAt lock past → (d : CpuId) (m : LockId) (name : N)
    → phase d past ≡ Holds m → (b : Bool) → same_lock lock m ≡ b
    → Line (takes lock past) (if b then gives lock past + 1 else gives lock past)
    (λ c. is_at lock (phase c (Give d m name ∷ past))) (λ c. is_holding lock (phase c (Give d m name ∷ past))) (λ c. ticket_index_of c (Give d m name ∷ past))
line_give lock past line d m name holds false elsewhere =
    line_stays line d (others_same lock past (Give d m name)) (grind (arith, phase_own, same_cpu_self)) (λ h. refl)
    (λ h. grind (arith, phase_own, same_cpu_self))
line_give lock past line d m name holds true here =
    line_left line d (others_same lock past (Give d m name)) (ap (is_holding lock) holds ∙ here) (grind (arith, phase_own, same_cpu_self))
    (grind (arith, phase_own, same_cpu_self))

line_step : {N : Type 0} (lock : LockId) (a : Action N) (past : List (Action N)) → MayAct past a → LineAt lock past → LineAt lock (a ∷ past)
line_step lock (Take d m) past may line = line_take lock past line d m may.0 may.1 (same_lock lock m) refl
line_step lock (Try d m hit) past may line =
    line_stays line d (others_same lock past (Try d m hit)) (grind (arith, same_cpu_self, at_either)) (λ h. refl)
    (λ h. grind (arith, same_cpu_self, holding_if, same_lock_true, eqb-true))
line_step lock (Give d m name) past may line = line_give lock past line d m name may (same_lock lock m) refl

-- the queue at each lock, after every legal list of actions
pub line_at : {N : Type 0} (lock : LockId) (actions : List (Action N)) → AreLegal actions → LineAt lock actions
line_at lock [] legal = record {
  balance = omega (arith, crowd_none CPUS);
  known = λ c h. absurd (cc h);
  ahead = λ c h. absurd (cc h);
  behind = λ c h. absurd (cc h);
  apart = λ c d h k e. absurd (cc h);
  inside = λ c h. h;
  first = λ c h. absurd (cc h);
}
line_at lock (a ∷ past) legal = line_step lock a past legal.0 (line_at lock past legal.1)

-- two CPUs are never inside one lock
pub one_holds : {N : Type 0} (actions : List (Action N)) → AreLegal actions → (a b : CpuId) (lock : LockId)
    → phase a actions ≡ Holds lock → phase b actions ≡ Holds lock → a ≡ b
one_holds actions legal a b lock first second =
    let line = line_at lock actions legal in
    grind (arith, line.apart a b, line.inside a, line.inside b, line.first a, line.first b, same_lock_self)

-- a CPU that waits at a lock or holds it has a ticket index among those not yet served, of which
-- there are at most CPUS
pub spot_is_near : {N : Type 0} (actions : List (Action N)) → AreLegal actions → (c : CpuId) (lock : LockId)
    → is_at lock (phase c actions) ≡ true → (gives lock actions ≤ ticket_index_of c actions) × (ticket_index_of c actions < gives lock actions + CPUS)
spot_is_near actions legal c lock there =
    let line = line_at lock actions legal in
    let waiting : ticket_index_of c actions < takes lock actions = line.behind c there in
    (line.ahead c there, omega (arith, line.balance, waiting, crowd_within (λ c. is_at lock (phase c actions)) CPUS))

-- each CPU that acted is a CPU of the machine
pub cpu_is_known : {N : Type 0} (actions : List (Action N)) → AreLegal actions → (c : CpuId) (lock : LockId) → is_at lock (phase c actions) ≡ true → c.0 < CPUS
cpu_is_known actions legal c lock there = (line_at lock actions legal).known c there
