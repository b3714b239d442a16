-- Looks of one CPU that all missed: each is a step of the step table that leaves the CPU's private
-- state, and so many of them are so many steps of the system.
use Rattle.std.proofs.Common.{◌≡◌, ℕ, zero, suc, ◌+◌, ◌<◌, ◌≤◌, false, List, [], ◌∷◌, ◌++◌, replicate, Some, None, refl, ap, sym, ◌∙◌, subst, arith}
use Rattle.std.{proofs.lemmas.Bool.ne_eqb, specs.Prelude.slice_get}
use Rattle.event_log.specs.{declared.ids.{CpuId.CpuId, LockId.LockId}, Actions.{Action, Try, AreLegal}}
use Rattle.{layer_traits.specs.declared.steps.Step.TheVariants.Stepped, cpu.specs.{Claims.{CpuView, IsRunState, SystemView}, Systems.SamePlan}}
use Rattle.cpu.{specs.{Systems.{SteppedByTable, own_reason}, Table.Blocks.Name}, proofs.ListFacts.ListReads.{set_again, shows_at}}
use Rattle.cpu.proofs.{WholeSystems.Moments.calls_stay, StepTable.Schedules.{Leads, leads_live, leads_nowhere}}

-- One failed poll.

-- the same, of two systems
missed_one : (c : CpuId) (lock : LockId) (s r : SystemView) (here : CpuView) → slice_get s.cpus c.0 ≡ Some here → r.cpus ≡ s.cpus → r.room ≡ s.room
    → r.taken ≡ s.taken + 1 → r.log ≡ Try c lock false ∷ s.log → AreLegal r.log → s.taken < s.room → SteppedByTable c s r Stepped
missed_one c lock s r here at cpus room taken log legal live setup for = grind (arith, ne_eqb, set_again, shows_at)

-- Several failed polls.

-- the actions older than the newest
abbrev behind : {N : Type 0} → List (Action N) → List (Action N)
behind [] = []
behind (a ∷ past) = past

-- the system after some of the polls
abbrev amid : SystemView → List (Action Name) → ℕ → SystemView
amid s log taken = record s { log = log; taken = taken }

amid_plan : (s : SystemView) (log : List (Action Name)) (taken : ℕ) → SamePlan s (amid s log taken)
amid_plan s log taken = record { caps = refl; homes = refl; programs = refl; count = refl; limits = refl; room = refl }

replicate_end : {X : Type 0} (n : ℕ) (x : X) → replicate n x ++ x ∷ [] ≡ x ∷ replicate n x
replicate_end zero x = refl
replicate_end (suc n) x = ap (λ l. x ∷ l) (replicate_end n x)

amid_moment : (s : SystemView) (log : List (Action Name)) (taken : ℕ) → s.taken ≤ taken → IsRunState s → IsRunState (amid s log taken)
amid_moment s log taken later now = grind arith

-- r is the system s after so many failed polls by CPU c, which has a section under way
pub record AreMisses (IsStepwise : Type 0) (c : CpuId) (s : SystemView) (looks : ℕ) (r : SystemView) : Type 0 where
  pub cpus : r.cpus ≡ s.cpus
  pub room : r.room ≡ s.room
  pub taken : r.taken ≡ s.taken + looks
  pub used : r.taken ≤ r.room
  pub tries : IsStepwise → (lock : LockId) × (r.log ≡ replicate looks (Try c lock false) ++ s.log)
  pub legal : AreLegal r.log
  pub order : r.order ≡ s.order
  pub before : IsRunState s
  pub now : IsRunState r

module _ (IsStepwise : Type 0) (c : CpuId) (s : SystemView) (here : CpuView) (at : slice_get s.cpus c.0 ≡ Some here) (live : own_reason here ≡ None) where
  -- they are steps of the schedule
  pub misses_lead : (more : ℕ) (r : SystemView) → SamePlan s r → AreMisses IsStepwise c s (suc more) r → Leads IsStepwise s (replicate (suc more) c) r
  misses_lead zero r same is =
      let taken = is.taken in
      let has_room : s.taken < s.room = omega (arith, taken, is.used, is.room) in
      let one_more : r.taken ≡ s.taken + 1 = omega (arith, taken) in
      leads_live IsStepwise s s r [] c (leads_nowhere IsStepwise s) same (grind (arith, ne_eqb, at, live, has_room)) one_more
      (calls_stay c s r is.order is.cpus) is.now
      (λ step. missed_one c (is.tries step).0 s r here at is.cpus is.room one_more (is.tries step).1 is.legal has_room)
  misses_lead (suc more) r same is =
      let taken = is.taken in
      let used = is.used in
      let room = is.room in
      let before : SystemView = amid s (behind r.log) (s.taken + suc more) in
      let has_room : s.taken + suc more < s.room = omega (arith, taken, used, room) in
      let one_more : r.taken ≡ s.taken + suc more + 1 = omega (arith, taken) in
      subst (λ (l : List CpuId). Leads IsStepwise s l r) (replicate_end (suc more) c)
      (leads_live IsStepwise s before r (replicate (suc more) c) c
      (misses_lead more before (amid_plan s (behind r.log) (s.taken + suc more)) (record {
        cpus = refl;
        room = refl;
        taken = refl;
        used = omega (arith, has_room);
        tries = λ step. ((is.tries step).0, ap (λ (l : List (Action Name)). behind l) (is.tries step).1);
        legal = legal_behind r.log is.legal;
        order = refl;
        before = is.before;
        now = amid_moment s (behind r.log) (s.taken + suc more) (omega arith) is.before;
      }))
      (record { caps = same.caps; homes = same.homes; programs = same.programs; count = same.count; limits = same.limits; room = same.room })
      (grind (arith, ne_eqb, at, live, has_room)) one_more (calls_stay c before r is.order is.cpus) is.now
      (λ step. missed_one c (is.tries step).0 before r here at is.cpus is.room one_more (first_is r.log _ _ (is.tries step).1) is.legal has_room))
    where
      legal_behind : (log : List (Action Name)) → AreLegal log → AreLegal (behind log)
      legal_behind log legal = grind arith

      first_is : (log : List (Action Name)) (a : Action Name) (past : List (Action Name)) → log ≡ a ∷ past → log ≡ a ∷ behind log
      first_is log a past is = is ∙ ap (λ (l : List (Action Name)). a ∷ behind l) (sym is)
