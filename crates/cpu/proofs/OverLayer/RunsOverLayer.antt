-- A system over a layer of message calls, after steps of one of its CPUs, one after the other.
use Rattle.std.proofs.{lemmas.{Bool.ne_eqb, List.replicate-append-replicate, Option.{same_Some, slice_get-map, slice_get_within}}, Common.{◌≡◌, ℕ, ◌+◌, ◌<◌}}
use Rattle.std.proofs.Common.{◌≤◌, List, [], ◌∷◌, ◌++◌, length, map, replicate, reverse, Some, None, slice_set, refl, ap, sym, ◌∙◌, subst, arith}
use Rattle.std.specs.Prelude.{slice_get, Option}
use Rattle.{event_log.specs.declared.ids.{BufId.BufId, CpuId.CpuId, Tid.Tid}, layer_traits.specs.Threads.OnePlace.cpu_at}
use Rattle.layer_traits.specs.{declared.{call_layers.CallLayer.Ghosts, steps.Step.TheVariants.Stepped}, Polling.Spins.{Misses, Spun}}
use Rattle.cpu.specs.{declared.cpus.Cpu.Cpu, Claims.{CpuView, SystemView}, CpuSteps.{RunsAt, SteppedAt}, Cpus.{GuestsWent, SeenGrows}, Linear.CallsGoOn}
use Rattle.cpu.{specs.{Linear.OrderGrows, Systems.{SteppedByTable, reason_of, own_reason}}, proofs.WholeSystems.{InvariantOverSteps.Holds, Moments.MachineLaws}}
use Rattle.cpu.proofs.{WholeSystems.Moments.{moment, order_grows}, ListFacts.ListReads.{set_again, set_else, set_there, set_twice, shows_at}}
use Rattle.cpu.proofs.{StepTable.{ReachedSystems.shown_in, Schedules.{Leads, leads_alone, leads_live, leads_nowhere}}, OverLayer.SystemOverLayer.by_table}
use Rattle.cpu.proofs.OverLayer.{SystemOverLayer.{observed_by, plan_preserved, shown_by, went_on, works_by}, SpinsOverLayer.{spins_keep, spins_lead}}

module _ {P L M : Type 0} (I : Ghosts P L M) (laws : MachineLaws I) (owner : M → BufId → Option Tid) (threads room k : ℕ) (c : CpuId) (same : k ≡ c.0) where
  -- a system with this machine and these CPUs, after so many steps
  abbrev pub shows : M → List (Cpu P M) → ℕ → SystemView
  shows o cpus done = shown_in (observed_by I owner o) (map (shown_by I) cpus) room done

  -- CPU c, at number k, took a step
  module _ (m n : M) (cpus : List (Cpu P M)) (taken : ℕ) (x y : Cpu P M) (is : Holds (works_by I owner threads) m cpus room taken)
      (at : slice_get cpus k ≡ Some x) (live : taken < room) (step : SteppedAt I m x n y) where
    acts : I.ActsFor n (I.cpu_of y.part)
    acts = laws.own_cpu y.part n step.agrees.coupled

    keeps_one : Holds (works_by I owner threads) n (slice_set cpus k y) room (taken + 1)
    keeps_one =
        went_on I owner threads m n cpus room taken k c x y is at same step.leaves live (laws.legal n (I.cpu_of y.part) acts) step.steps step.agrees.coupled
        step.agrees.is step.agrees.table (laws.known n (I.cpu_of y.part) acts)

    pub by_one : I.IsStepwise → SteppedByTable c (shows m cpus taken) (shows n (slice_set cpus k y) (taken + 1)) Stepped
    by_one = by_table I owner threads m n cpus room taken k c x y is at same step.leaves live (laws.legal n (I.cpu_of y.part) acts) step.steps

    -- the order grows by at most one call, of this CPU
    pub grows_one : OrderGrows c (reverse (I.history m)) (reverse (I.history n))
    grows_one =
        let number : x.number ≡ c = (is.each k x at).number_is ∙ ap (λ (j : ℕ). cpu_at j) same in
        order_grows (λ d. I.ActsFor m d) c (I.history m) (I.history n) is.acts_for (laws.known n (I.cpu_of y.part) acts)
        (subst (λ (d : CpuId). SeenGrows (λ a. I.ActsFor m a) d (I.history m) (I.history n)) number step.leaves.history)

    -- the order of calls grows
    pub calls_one : CallsGoOn c (shows m cpus taken) (shows n (slice_set cpus k y) (taken + 1))
    calls_one = record {
      order = grows_one;
      local = λ p q at_p at_q.
          let number : x.number ≡ c = (is.each k x at).number_is ∙ ap (λ (j : ℕ). cpu_at j) same in
          let was : shown_by I x ≡ p = grind (arith, same_Some, shows_at) in
          let there : slice_get (slice_set cpus k y) k ≡ Some y = set_there cpus k y (slice_get_within cpus k x at) in
          let now : shown_by I y ≡ q = grind (arith, same_Some, shows_at) in
          subst (λ (d : CpuId). GuestsWent d p.guests p.trace q.guests q.trace) number
          (subst (λ (z : CpuView). GuestsWent x.number p.guests p.trace z.guests z.trace) now
          (subst (λ (z : CpuView). GuestsWent x.number z.guests z.trace y.guests.items y.trace.items) was step.leaves.guests));
      others = grind (arith, slice_get-map, set_else);
    }

    leads_one : (s : SystemView) (schedule : List CpuId) → Leads I.IsStepwise s schedule (shows m cpus taken)
        → Leads I.IsStepwise s (schedule ++ c ∷ []) (shows n (slice_set cpus k y) (taken + 1))
    leads_one s schedule before =
        let there = subst (λ (j : ℕ). slice_get (map (shown_by I) cpus) j ≡ Some (shown_by I x)) same (shows_at (shown_by I) cpus k x at) in
        let none : reason_of c (shows m cpus taken) ≡ None = grind (arith, ne_eqb, there, step.live) in
        leads_live I.IsStepwise s (shows m cpus taken) (shows n (slice_set cpus k y) (taken + 1)) schedule c before
        (plan_preserved I owner threads m n cpus room taken (taken + 1) k x y at step.leaves) none refl calls_one
        (moment I laws owner threads n (slice_set cpus k y) room (taken + 1) keeps_one) by_one

  -- it took so many, which are steps of a schedule, and all holds as before
  pub record WentSo (m : M) (cpus : List (Cpu P M)) (taken steps : ℕ) (n : M) (y : Cpu P M) : Type 0 where
    pub keeps : Holds (works_by I owner threads) n (slice_set cpus k y) room (taken + steps)
    pub leads : Leads I.IsStepwise (shows m cpus taken) (replicate steps c) (shows n (slice_set cpus k y) (taken + steps))

  pub went_so : {m : M} {x : Cpu P M} {steps : ℕ} {n : M} {y : Cpu P M} (cpus : List (Cpu P M)) (taken : ℕ) → Holds (works_by I owner threads) m cpus room taken
      → slice_get cpus k ≡ Some x → RunsAt I m x steps n y → taken + steps ≤ room → WentSo m cpus taken steps n y
  went_so {m} {x} cpus taken is at RunsAt.no_steps space =
      let same : slice_set cpus k x ≡ cpus = set_again cpus k x at in
      let sum : taken ≡ taken + 0 = omega arith in
      record {
        keeps = subst (λ (l : List (Cpu P M)). Holds (works_by I owner threads) m l room (taken + 0)) (sym same)
            (subst (λ (done : ℕ). Holds (works_by I owner threads) m cpus room done) sum is);
        leads = subst (λ (l : List (Cpu P M)). Leads I.IsStepwise (shows m cpus taken) [] (shows m l (taken + 0))) (sym same)
            (subst (λ (done : ℕ). Leads I.IsStepwise (shows m cpus taken) [] (shows m cpus done)) sum (leads_nowhere I.IsStepwise (shows m cpus taken)));
      }
  went_so {m} {x} cpus taken is at (RunsAt.then_step {k = steps} {n = n} {o = o} {q = q} {r = r} runs step) space =
      let before = went_so cpus taken is at runs (omega (arith, space)) in
      let live : taken + steps < room = omega (arith, space) in
      let amid = slice_set cpus k q in
      let there : slice_get amid k ≡ Some q = set_there cpus k q (slice_get_within cpus k x at) in
      let sum : (taken + steps) + 1 ≡ taken + (steps + 1) = omega arith in
      let twice : slice_set amid k r ≡ slice_set cpus k r = set_twice cpus k q r in
      record {
        keeps = subst (λ (l : List (Cpu P M)). Holds (works_by I owner threads) o l room (taken + (steps + 1))) twice
            (rw (← sum) (keeps_one n o amid (taken + steps) q r before.keeps there live step));
        leads = subst (λ (l : List (Cpu P M)). Leads I.IsStepwise (shows m cpus taken) (replicate (steps + 1) c) (shows o l (taken + (steps + 1)))) twice
            (subst (λ (done : ℕ). Leads I.IsStepwise (shows m cpus taken) (replicate (steps + 1) c) (shows o (slice_set amid k r) done)) sum
            (rw (← replicate-append-replicate steps 1 c)
            (leads_one n o amid (taken + steps) q r before.keeps there live step (shows m cpus taken) (replicate steps c) before.leads)));
      }

  -- and then it polled the lock so often, and each poll failed
  pub spun_so : {m n o : M} {y : Cpu P M} {cpus : List (Cpu P M)} {taken steps looks : ℕ} → k < length cpus → WentSo m cpus taken steps n y
      → Spun I.Coupled I.opening I.machine_id I.history I.room I.ActsFor I.MayHold looks n o
      → (I.IsStepwise → Misses (I.cpu_of y.part) looks (I.acts n) (I.acts o))
      → (looks ≡ 0 → o ≡ n) → (0 < looks → own_reason (shown_by I y) ≡ None) → taken + (steps + looks) ≤ room → WentSo m cpus taken (steps + looks) o y
  spun_so {m} {n} {o} {y} {cpus} {taken} {steps} {looks} inside went spun tries still live space =
      let amid = slice_set cpus k y in
      let there : slice_get amid k ≡ Some y = set_there cpus k y inside in
      let sum : (taken + steps) + looks ≡ taken + (steps + looks) = omega arith in
      let within : (taken + steps) + looks ≤ room = omega (arith, space) in
      record {
        keeps = subst (λ (done : ℕ). Holds (works_by I owner threads) o amid room done) sum
            (spins_keep I laws owner threads n o amid room (taken + steps) k looks c y went.keeps there same spun tries still live within);
        leads = subst (λ (done : ℕ). Leads I.IsStepwise (shows m cpus taken) (replicate (steps + looks) c) (shows o amid done)) sum
            (leads_alone I.IsStepwise (shows m cpus taken) (shows n amid (taken + steps)) (shows o amid ((taken + steps) + looks)) c steps looks went.leads
            (spins_lead I laws owner threads n o amid room (taken + steps) k looks c y went.keeps there same spun tries still live within));
      }
