-- A worker's turns along one list of actions.
use Rattle.std.proofs.Common.{◌≡◌, ◌⊎◌, inl, inr, ℕ, ◌+◌, ◌<◌, ◌≤◌, min, Bool, true, false, List, [], ◌∷◌, ◌++◌, Option, refl, ap, sym, ◌∙◌, subst, arith}
use Rattle.std.proofs.lemmas.Bool.{cases_lt}
use Rattle.event_log.{specs.{declared.ids.CpuId.CpuId, History.AreOthers, Actions.{Action, cpu_of_action, phase}}, proofs.Foreign.phase_others}
use Rattle.layer_traits.specs.{declared.steps.{Reason.Reason, Step.TheVariants.Stepped}, Polling.Along.{Outcome, Along, starts, others, steps, IsStep}}
use Rattle.{layer_traits.specs.Polling.Plans.is_in_section, cpu.specs.{Table.{Setups.SystemConfig, Steps.{cpu_step, halted_at}}, Tower.Composed.named}}
use Rattle.{cpu.specs.Tower.Views.TowerName, cpu_workers.specs.declared.workers.{gates.Go.{Go, TheVariants.{Limit, Pass}}, stops.Stop.Stop}}
use Rattle.cpu_workers.specs.{declared.workers.stops.Stop.TheVariants.{AllEnded, TurnsUsed, TraceFull, Held}, Working.{IsPlanned, IsSame, TookTurns, Charge}}
use Rattle.cpu_workers.specs.{Working.{Turned, Working, is_inside, log}, Reports.{CountsTurns, HasRun, IsTrueStop, MayHold, Walked, TookWithin, Within}}
use Rattle.cpu_workers.specs.Reports.{another, below, counted_on, most, MayTakeTurn, none_taken, one_taken, PassedAtEach, AskedAtEach, WasHeld}

-- Numbers of turns.

counts_more : (shown count : ℕ) → CountsTurns shown count → CountsTurns (counted_on shown) (count + 1)
counts_more shown count counts =
    let least = counts.least in
    record { least = grind (arith, least); exact = λ few. grind (arith, least, counts.exact, few) }

taken_last : (taken k : ℕ) → k < counted_on taken → k ≤ taken
taken_last taken k before = grind (arith, before)

taken_after : (taken k : ℕ) → k ≤ taken → k ≤ counted_on taken
taken_after taken k least = grind (arith, least)

-- a turn that is shown to be below a number of 64 bits was taken below it
below_shown : (turns shown : ℕ) → turns ≤ most → shown < turns → (count : ℕ) → CountsTurns shown count → below turns count
below_shown turns shown small short count counts =
    let same : count ≡ shown = counts.exact (omega (arith, small, short)) in omega (arith, same, short)

-- a stop that is true according to what the gate has returned is true according to what it may
-- return
true_stop : (halted : Option Reason) {A B : ℕ → Type 0} (turns taken : ℕ) (stop : Stop) → ((turn : ℕ) → A turn → MayHold B taken)
    → IsTrueStop halted A turns taken stop → IsTrueStop halted B turns taken stop
true_stop halted turns taken AllEnded may is = is
true_stop halted turns taken TraceFull may is = is
true_stop halted turns taken TurnsUsed may is = is
true_stop halted turns taken Held may is = (is.0, may is.1.0 is.1.2)

-- Ways along a list of actions.

module _ {P N : Type 0} {table : P → List (Action N) → Outcome P N} {cpu : CpuId} {first : P} where
  -- other CPUs act
  pub along_others : (more : List (Action N)) {n : ℕ} {p : P} {past : List (Action N)} → AreOthers cpu_of_action cpu more → Along table cpu first n p past
      → Along table cpu first n p (more ++ past)
  along_others [] all along = along
  along_others (a ∷ more) all along = others a (along_others more all.1 along) all.0

  pub within_others : {May : ℕ → Type 0} (more : List (Action N)) {n : ℕ} {p : P} {past : List (Action N)} → AreOthers cpu_of_action cpu more
      → Within table cpu May first n p past → Within table cpu May first n p (more ++ past)
  within_others [] all way = way
  within_others (a ∷ more) all way = another a (within_others more all.1 way) all.0

  -- a way on which each step is allowed is a way
  steps_of : {May : ℕ → Type 0} {n : ℕ} {p : P} {past : List (Action N)} → Within table cpu May first n p past → Along table cpu first n p past
  steps_of none_taken = starts
  steps_of (another a way apart) = others a (steps_of way) apart
  steps_of (one_taken way may stepped) = steps (steps_of way) stepped

  pub took_of : {May : ℕ → Type 0} {last : P} {past : List (Action N)} {shown : ℕ} → TookWithin table cpu May first last past shown
      → Walked table cpu first last past shown
  took_of took = record { count = took.count; steps = steps_of took.steps; counted = took.counted }

  -- a way of no more than so many steps took each of them below that many
  within_up : {A : ℕ → Type 0} (bound : ℕ) {n : ℕ} {p : P} {past : List (Action N)} → n ≤ bound → Within table cpu A first n p past
      → Within table cpu (below bound) first n p past
  within_up bound short none_taken = none_taken
  within_up bound short (another a way apart) = another a (within_up bound short way) apart
  within_up bound short (one_taken way may stepped) = one_taken (within_up bound (omega (arith, short)) way) (inr (omega (arith, short))) stepped

  -- one step of the table more, inside a section or where it is allowed
  took_one : {May : ℕ → Type 0} {p q : P} {old new : List (Action N)} {shown : ℕ} → TookWithin table cpu May first p old shown
      → IsStep (λ c. c ≡ cpu) table p q old new Stepped → (is_in_section (phase cpu old) ≡ true) ⊎ ((count : ℕ) → CountsTurns shown count → May count)
      → TookWithin table cpu May first q new (counted_on shown)
  took_one {May} {p} {q} {old} {new} {shown = shown} took went may = record {
    count = took.count + 1;
    steps = rw went.next (rw went.grows (one_taken (within_others went.others (went.foreign cpu refl) took.steps) (go may) (sym went.answers)));
    counted = counts_more shown took.count took.counted;
  }
    where
      go : (is_in_section (phase cpu old) ≡ true) ⊎ ((count : ℕ) → CountsTurns shown count → May count)
          → (is_in_section (phase cpu (went.others ++ old)) ≡ true) ⊎ May took.count
      go (inl inside) = inl (ap is_in_section (phase_others cpu went.others old (went.foreign cpu refl)) ∙ inside)
      go (inr allowed) = inr (allowed took.count took.counted)

-- A worker on its way.

-- under a table of its plan it took so many turns, between two sections only if it might. If the
-- gate holds it, it took none after that except to end a section. The gate was asked at each turn,
-- and let a worker pass that it does not hold.
pub record Goes (setup : SystemConfig) (May : Go → ℕ → Type 0) (turns : ℕ) (start now : Working) (taken : ℕ) (held : Bool) : Type 0 where
  pub within : TookWithin (cpu_step setup start.cpu) start.cpu (MayTakeTurn turns (May Pass)) start.cpu_local now.cpu_local (log now) taken
  pub was_held : held ≡ true → WasHeld (cpu_step setup start.cpu) start.cpu (May Limit) start.cpu_local now.cpu_local (log now) taken
  pub asked : AskedAtEach May taken
  pub passed : held ≡ false → PassedAtEach (May Pass) taken

-- so it did by each table of its plan, and it is the one that began
pub record Ran (May : CpuId → Go → ℕ → Type 0) (turns : ℕ) (start now : Working) (taken : ℕ) (held : Bool) : Type 0 where
  pub same : IsSame start now
  pub goes : (setup : SystemConfig) → IsPlanned setup start.plan → Goes setup (May start.cpu) turns start now taken held

pub ran_none : (May : CpuId → Go → ℕ → Type 0) (turns : ℕ) (w : Working) → w.acts ≡ [] → Ran May turns w w 0 false
ran_none May turns w fresh = record {
  same = record { cpu = refl; plan = refl; machine_id = refl };
  goes = λ setup of. record {
    within =
        rw fresh (record { count = 0; steps = none_taken; counted = record { least = omega arith; exact = λ few. refl } });
    was_held = λ is. absurd (cc is);
    asked = λ k before. absurd (omega (arith, before));
    passed = λ is k before. absurd (omega (arith, before));
  };
}

-- if the gate holds the worker, it did before, or it has returned `Limit`
held_now : {setup : SystemConfig} {May : Go → ℕ → Type 0} {turns : ℕ} {start now : Working} {taken : ℕ} {held : Bool}
    → Goes setup May turns start now taken held
    → (held ≡ true) ⊎ May Limit taken → WasHeld (cpu_step setup start.cpu) start.cpu (May Limit) start.cpu_local now.cpu_local (log now) taken
held_now goes (inl was) = goes.was_held was
held_now {taken = taken} goes (inr may) = record {
  turn = taken;
  before = omega arith;
  may = may;
  count = goes.within.count;
  counted = goes.within.counted;
  within = record { count = goes.within.count; steps = within_up goes.within.count (omega arith) goes.within.steps; counted = goes.within.counted };
}

-- the gate was asked at the turn that was taken last too
asked_on : (May : Go → ℕ → Type 0) (taken : ℕ) (held : Bool) → AskedAtEach May taken → (held ≡ false → May Pass taken)
    → (held ≡ true → MayHold (May Limit) taken) → AskedAtEach May (counted_on taken)
asked_on May taken held asked free holds k before = elim (cases_lt k taken) [
  | inl less ↦ asked k less
  | inr past ↦ subst (λ (n : ℕ). May Pass n ⊎ MayHold (May Limit) n) (omega (arith, past, taken_last taken k before)) (now held refl)
]
  where
    now : (b : Bool) → held ≡ b → May Pass taken ⊎ MayHold (May Limit) taken
    now true is = inr (holds is)
    now false is = inl (free is)

-- one turn of the CPU by the step table, inside a section or where it is free to
record Turn (setup : SystemConfig) (cpu : CpuId) (now next : Working) (Free : Type 0) : Type 0 where
  pub went : IsStep (λ c. c ≡ cpu) (cpu_step setup cpu) now.cpu_local next.cpu_local (log now) (log next) Stepped
  pub may : (is_in_section (phase cpu (log now)) ≡ true) ⊎ Free

-- the gate was asked, and holds the worker now or does not
module _ {May : CpuId → Go → ℕ → Type 0} {turns : ℕ} {start now : Working} {taken : ℕ} {held : Bool} (ran : Ran May turns start now taken held) (new : Bool)
    (limits : new ≡ true → (held ≡ true) ⊎ May now.cpu Limit taken) (kept : held ≡ true → new ≡ true) where
  holds : (setup : SystemConfig) → IsPlanned setup start.plan → new ≡ true
      → WasHeld (cpu_step setup start.cpu) start.cpu (May start.cpu Limit) start.cpu_local now.cpu_local (log now) taken
  holds setup of is = held_now (ran.goes setup of) (subst (λ (d : CpuId). (held ≡ true) ⊎ May d Limit taken) ran.same.cpu (limits is))

  passed : (setup : SystemConfig) → IsPlanned setup start.plan → new ≡ false → PassedAtEach (May start.cpu Pass) taken
  passed setup of free = (ran.goes setup of).passed (grind (arith, kept))

  -- it takes no turn
  ran_still : Ran May turns start now taken new
  ran_still = record {
    same = ran.same;
    goes = λ setup of. let goes = ran.goes setup of in record {
      within = goes.within;
      was_held = holds setup of;
      asked = goes.asked;
      passed = passed setup of;
    };
  }

  -- it takes one turn more
  ran_on : {next : Working} → turns ≤ most → (new ≡ false → May now.cpu Pass taken) → (is_inside now ≡ true) ⊎ ((new ≡ false) × (taken < turns))
      → IsSame now next → Turned now next Stepped → Ran May turns start next (counted_on taken) new
  ran_on {next} small passes may same turned = record {
    same = record { cpu = same.cpu ∙ ran.same.cpu; plan = same.plan ∙ ran.same.plan; machine_id = same.machine_id ∙ ran.same.machine_id };
    goes = λ setup of.
        let goes = ran.goes setup of in
        let turn = turn_of setup of in record {
          within = took_one goes.within turn.went (allowed (passed_now setup of) turn.may);
          was_held = λ is. let was = holds setup of is in let before = was.before in record {
            turn = was.turn;
            before = taken_after taken was.turn before;
            may = was.may;
            count = was.count;
            counted = was.counted;
            within = took_one was.within turn.went (inl (inside is turn.may));
          };
          asked = asked_on (May start.cpu) taken new goes.asked pass (λ is. let was = holds setup of is in (was.turn, was.before, was.may));
          passed = λ free k before. passed_now setup of free k (taken_last taken k before);
        };
  }
    where
      turn_of : (setup : SystemConfig) → IsPlanned setup start.plan → Turn setup start.cpu now next ((new ≡ false) × (taken < turns))
      turn_of setup of =
          let planned = subst (λ (p : Charge). IsPlanned setup p) (sym ran.same.plan) of in
          subst (λ (d : CpuId). Turn setup d now next ((new ≡ false) × (taken < turns))) ran.same.cpu (record { went = turned setup planned; may = may })

      pass : new ≡ false → May start.cpu Pass taken
      pass free = subst (λ (d : CpuId). May d Pass taken) ran.same.cpu (passes free)

      passed_now : (setup : SystemConfig) → IsPlanned setup start.plan → new ≡ false → (k : ℕ) → k ≤ taken → May start.cpu Pass k
      passed_now setup of free k least = elim (cases_lt k taken) [
        | inl less ↦ passed setup of free k less
        | inr past ↦ subst (λ (n : ℕ). May start.cpu Pass n) (omega (arith, past, least)) (pass free)
      ]

      inside : new ≡ true → (is_in_section (phase start.cpu (log now)) ≡ true) ⊎ ((new ≡ false) × (taken < turns))
          → is_in_section (phase start.cpu (log now)) ≡ true
      inside is (inl within) = within
      inside is (inr free) = let not = free.0 in absurd (cc (is, not))

      allowed : (new ≡ false → (k : ℕ) → k ≤ taken → May start.cpu Pass k)
          → (is_in_section (phase start.cpu (log now)) ≡ true) ⊎ ((new ≡ false) × (taken < turns))
          → (is_in_section (phase start.cpu (log now)) ≡ true) ⊎ ((count : ℕ) → CountsTurns taken count → MayTakeTurn turns (May start.cpu Pass) count)
      allowed all (inl within) = inl within
      allowed all (inr free) = inr (λ count counts. (below_shown turns taken small free.1 count counts, (taken, counts, all free.0)))

  -- it stops
  pub has_run : {stop : Stop} → is_inside now ≡ false
      → ((setup : SystemConfig) → IsPlanned setup now.plan → IsTrueStop (halted_at setup now.cpu now.cpu_local) (λ turn. new ≡ true) turns taken stop)
      → (stop ≡ TurnsUsed → new ≡ false) → HasRun May turns start now taken stop
  has_run {stop} rests stops used = record {
    same = ran.same;
    rests = rests;
    went = λ setup of.
        let goes = ran.goes setup of in
        let is_true = rw ran.same.cpu at (stops setup (rw ran.same.plan of)) in record {
          took = took_of goes.within;
          within = goes.within;
          held = λ is. holds setup of
              (subst (λ (x : Stop). IsTrueStop (halted_at setup start.cpu now.cpu_local) (λ turn. new ≡ true) turns taken x) is is_true).1.2;
          asked = goes.asked;
          used = λ is. passed setup of (used is);
          stop_is = true_stop (halted_at setup start.cpu now.cpu_local) turns taken stop
              (λ turn is. let was = holds setup of is in (was.turn, was.before, was.may)) is_true;
        };
  }

-- so many turns as are shown
abbrev pub shown_after : ℕ → ℕ → ℕ
shown_after taken k = min (taken + k) most

-- if more than one turn is allowed: the gate does not hold the worker and lets it pass at each
pub record AllAllowed (May : ℕ → Type 0) (turns taken k : ℕ) (held : Bool) : Type 0 where
  pub free : held ≡ false
  pub below : taken + k ≤ turns
  pub passes : (j : ℕ) → taken ≤ j → j < taken + k → May j

module _ {May : CpuId → Go → ℕ → Type 0} {turns : ℕ} {start now : Working} {taken : ℕ} {held : Bool} (ran : Ran May turns start now taken held) (new : Bool)
    (limits : new ≡ true → (held ≡ true) ⊎ May now.cpu Limit taken) (kept : held ≡ true → new ≡ true) (small : turns ≤ most) (coupled : taken ≤ most)
    (passes : new ≡ false → May now.cpu Pass taken) (may : (is_inside now ≡ true) ⊎ ((new ≡ false) × (taken < turns))) where
  -- it may take the turn after so many: the first as the gate was asked for it, each further one as
  -- it is allowed
  next_turn : {k : ℕ} {w : Working} → TookTurns now k w → IsSame start w → (1 < k + 1 → AllAllowed (May now.cpu Pass) turns taken (k + 1) new)
      → (new ≡ false → May w.cpu Pass (shown_after taken k)) × ((is_inside w ≡ true) ⊎ ((new ≡ false) × (shown_after taken k < turns)))
  next_turn TookTurns.no_turns same all =
      let is : taken ≡ shown_after taken 0 = grind (arith, coupled) in
      subst (λ n. (new ≡ false → May now.cpu Pass n) × ((is_inside now ≡ true) ⊎ ((new ≡ false) × (n < turns)))) is (passes, may)
  next_turn {w = w} (TookTurns.one_more {k = k} runs s t) same all =
      let allowed = all (omega arith) in
      let below = allowed.below in
      let is : taken + (k + 1) ≡ shown_after taken (k + 1) = grind (arith, below, small) in
      let pass = rw (ran.same.cpu ∙ sym same.cpu) at (allowed.passes (taken + (k + 1)) (omega arith) (omega arith)) in
      rw (← is) ((λ free. pass), inr (allowed.free, omega (arith, below)))

  -- it takes so many turns more
  pub ran_through : {k : ℕ} {next : Working} → TookTurns now k next → (1 < k → AllAllowed (May now.cpu Pass) turns taken k new)
      → Ran May turns start next (shown_after taken k) new
  ran_through TookTurns.no_turns all =
      let is : taken ≡ shown_after taken 0 = grind (arith, coupled) in
      subst (λ n. Ran May turns start now n new) is (ran_still ran new limits kept)
  ran_through {next = next} (TookTurns.one_more {k = k} runs same turned) all =
      let before = ran_through runs (λ many. let allowed = all (omega (arith, many)) in let below = allowed.below in record {
        free = allowed.free;
        below = omega (arith, below);
        passes = λ j least short. allowed.passes j least (omega (arith, short));
      }) in
      let turn = next_turn runs before.same all in
      let is : counted_on (shown_after taken k) ≡ shown_after taken (k + 1) = grind arith in
      subst (λ n. Ran May turns start next n new) is (ran_on before new (λ holds. inl holds) (λ holds. holds) small turn.0 turn.1 same turned)
