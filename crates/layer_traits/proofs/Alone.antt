-- A machine whose holder acts for every CPU has no environment events; and a section where every
-- CPU rests.
use Rattle.std.proofs.{Common.{◌≡◌, ◌<◌, true, false, List, [], ◌∷◌, ◌++◌, Option, IsSome, option_map, refl, ap, ◌∙◌, arith}, lemmas.Bool.eq-eqb}
use Rattle.event_log.specs.{declared.ids.{CpuId.CpuId, LockId.LockId, TheConstants.CPUS}, History.AreForeign, Actions.{Action, Take, Try, Give, Rests, Waits}}
use Rattle.event_log.specs.{Actions.{Holds, cpu_of_action, phase, takes, gives, AreLegal, next_action, action_in}, Sections.{Section, sections_in, block_after}}
use Rattle.event_log.proofs.{Exclusion.{is_at, line_at, phase_own}, Foreign.cpu_of_action_known, Line.{crowd, crowd_same, crowd_none}, Same.same_cpu_self}
use Rattle.layer_traits.specs.Polling.Plans.{Table, Left, Acting, at_give, reply}

-- no action is an environment action for a holder that acts for every CPU
pub no_foreign_acts : {N : Type 0} (ActsFor : CpuId → Type 0) → ((c : CpuId) → c.0 < CPUS → ActsFor c) → (others old : List (Action N))
    → AreLegal (others ++ old) → AreForeign ActsFor cpu_of_action others → others ≡ []
no_foreign_acts ActsFor all [] old legal foreign = refl
no_foreign_acts ActsFor all (a ∷ others) old legal foreign =
    let other = (foreign (cpu_of_action a) (all (cpu_of_action a) (cpu_of_action_known a (others ++ old) legal.0 legal.1))).0 in
    absurd (cc (other, same_cpu_self (cpu_of_action a)))

-- a lock that opened with a block has one after any sections
pub block_there : {E B : Type 0} (edited : E → B → B) (opening : LockId → Option B) (lock : LockId) (past : List (Section E)) → IsSome (opening lock)
    → IsSome (block_after edited opening lock past)
block_there {B = B} edited opening lock [] some = some
block_there {B = B} edited opening lock (s ∷ past) some = grind (arith, block_there edited opening lock past some)

module _ {N : Type 0} (cpu : CpuId) (lock : LockId) (name : N) (past : List (Action N)) (rests : (c : CpuId) → phase c past ≡ Rests) where
  -- if every CPU rests, each lock was released as often as it was requested
  all_given : AreLegal past → takes lock past ≡ gives lock past
  all_given legal =
      let line = line_at lock past legal in
      let nobody : crowd (λ c. is_at lock (phase c past)) CPUS ≡ 0
      = crowd_same (λ c. false) (λ c. is_at lock (phase c past)) CPUS (λ c. ap (is_at lock) (rests c)) ∙ crowd_none CPUS in
      omega (arith, line.balance, nobody)

  -- the three actions of a section where every CPU rests
  pub first_action : next_action cpu lock name past ≡ Take cpu lock
  first_action = ap (action_in cpu lock name past) (rests cpu)

  waits : phase {N = N} cpu (Take cpu lock ∷ past) ≡ Waits lock
  waits = phase_own {N = N} (Take cpu lock) past

  pub second_action : AreLegal past → next_action cpu lock name (Take cpu lock ∷ past) ≡ Try cpu lock true
  second_action legal = grind (arith, same_cpu_self, all_given, waits, eq-eqb)

  holds : phase cpu (Try cpu lock true ∷ Take cpu lock ∷ past) ≡ Holds lock
  holds = phase_own {N = N} (Try cpu lock true) (Take cpu lock ∷ past)

  pub third_action : next_action cpu lock name (Try cpu lock true ∷ Take cpu lock ∷ past) ≡ Give cpu lock name
  third_action = ap (action_in cpu lock name (Try cpu lock true ∷ Take cpu lock ∷ past)) holds

  pub third_reply : {B R : Type 0} (table : Table N B R) (opening : LockId → Option B)
      → reply table opening cpu lock name (Try cpu lock true ∷ Take cpu lock ∷ past)
      ≡ option_map (table.answer name) (block_after table.edited opening lock (sections_in past))
  third_reply table opening = ap (λ p. at_give p (option_map (table.answer name) (block_after table.edited opening lock (sections_in past)))) holds

-- if the holder acts for every CPU, a planned action is exactly the one that is due
pub acts_alone : {N B R S A : Type 0} (ActsFor : CpuId → Type 0) (table : Table N B R) (opening : LockId → Option B) (cpu : CpuId) (lock : LockId)
    (name : N) (react : Option R → Left S A) (old new : List (Action N)) (got : Left S A)
    → ((c : CpuId) → c.0 < CPUS → ActsFor c) → AreLegal new → Acting ActsFor table opening cpu lock name react old new got
    → (new ≡ next_action cpu lock name old ∷ old) × (got ≡ react (reply table opening cpu lock name old))
acts_alone ActsFor table opening cpu lock name react old new got all legal acting =
    let past_legal = (rw acting.acted.grows at legal).1 in
    let none = no_foreign_acts ActsFor all acting.acted.others old (rw acting.acted.joined at past_legal) acting.acted.foreign in
    let same : acting.past ≡ old = acting.acted.joined ∙ ap (λ l. l ++ old) none in (
      acting.acted.grows ∙ ap (λ past. next_action cpu lock name past ∷ past) same,
      acting.moves ∙ ap (λ past. react (reply table opening cpu lock name past)) same,
    )

-- what three consecutive polls leave if every CPU rests
pub record Section3 {N B R : Type 0} (table : Table N B R) (opening : LockId → Option B) (cpu : CpuId) (lock : LockId) (name : N)
    (first third fourth : List (Action N)) (answer : Option R) : Type 0 where
  pub tried : third ≡ Try cpu lock true ∷ Take cpu lock ∷ first
  pub given : fourth ≡ Give cpu lock name ∷ Try cpu lock true ∷ Take cpu lock ∷ first
  pub answers : answer ≡ option_map (table.answer name) (block_after table.edited opening lock (sections_in first))

pub three_polls : {N B R : Type 0} (table : Table N B R) (lock : LockId) (name : N) (o o' o'' : LockId → Option B) (cpu cpu' cpu'' : CpuId)
    (first second third fourth : List (Action N)) (answer : Option R)
    → ((c : CpuId) → phase c first ≡ Rests) → AreLegal first → cpu' ≡ cpu → cpu'' ≡ cpu' → o' ≡ o → o'' ≡ o'
    → second ≡ next_action cpu lock name first ∷ first → third ≡ next_action cpu' lock name second ∷ second → fourth ≡ next_action cpu'' lock name third ∷ third
    → answer ≡ reply table o'' cpu'' lock name third → Section3 table o cpu lock name first third fourth answer
three_polls {N = N} table lock name o o' o'' cpu cpu' cpu'' first second third fourth answer rests legal same same' kept kept' one two three gives =
    let taken = one ∙ ap (λ a. a ∷ first) (first_action cpu lock name first rests) in
    let tried = rw (same, taken, second_action cpu lock name first rests legal) at two in
    record {
      tried = tried;
      given = rw (same' ∙ same, tried, third_action cpu lock name first rests) at three;
      answers = rw (kept' ∙ kept, same' ∙ same, tried, third_reply cpu lock name first rests table o) at gives;
    }

pub answer_there : {B R : Type 0} (f : B → R) (block : Option B) → IsSome block → IsSome (option_map f block)
answer_there f block there = grind (arith, there)
