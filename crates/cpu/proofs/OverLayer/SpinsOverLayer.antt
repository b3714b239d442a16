-- A system over a layer of message calls, after polls of a lock by one of its CPUs that all failed.
use Rattle.std.proofs.Common.{◌≡◌, ◌≢◌, ℕ, zero, suc, ◌+◌, ◌<◌, ◌≤◌, false, List, [], ◌∷◌, ◌++◌, length, map, replicate, reverse, Option, Some, None, refl, ap}
use Rattle.std.{proofs.{Common.{sym, ◌∙◌, subst, arith}, lemmas.{Bool.ne_eqb, Option.slice_get_within}}, specs.Prelude.slice_get}
use Rattle.layer_traits.specs.{Blocks.{Capacities.caps_in, QueueBlocks.homes_in}, declared.call_layers.CallLayer.Ghosts, Threads.OnePlace.cpu_at}
use Rattle.{layer_traits.specs.Polling.Spins.{Misses, Spun}, event_log.specs.declared.{entries.Entry.Entry, ids.{BufId.BufId, CpuId.CpuId, LockId.LockId}}}
use Rattle.event_log.{specs.{declared.ids.Tid.Tid, Actions.{Action, Try, AreLegal, cpu_of_action, phase}, History.AreOthers}, proofs.Foreign.phase_others}
use Rattle.{event_log.proofs.Renaming.legal_renamed, cpu.specs.{declared.cpus.Cpu.Cpu, Claims.{IsRunState, SystemView}, Systems.own_reason}}
use Rattle.cpu.{specs.Tower.{Composed.named, Views.{TowerName, name_of}}, proofs.WholeSystems.{InvariantOverSteps.Holds, Moments.{MachineLaws, moment}}}
use Rattle.cpu.proofs.{ListFacts.ListReads.shows_at, StepTable.{MissedLooks.misses_lead, ReachedSystems.shown_in, Schedules.{Leads, leads_nowhere}}}
use Rattle.cpu.proofs.{StepTable.Schedules.reached_alone, OverLayer.SystemOverLayer.{observed_by, shown_by, works_by}}

-- tries under the table's names
named_misses : (looks : ℕ) (c : CpuId) (lock : LockId) (past : List (Action TowerName))
    → named (replicate looks (Try c lock false) ++ past) ≡ replicate looks (Try c lock false) ++ named past
named_misses zero c lock past = refl
named_misses (suc looks) c lock past = ap (λ l. Try c lock false ∷ l) (named_misses looks c lock past)

-- tries of a CPU are none of another's
misses_of : (N : Type 0) (looks : ℕ) (c d : CpuId) (lock : LockId) → c.0 ≢ d.0 → AreOthers {E = Action N} cpu_of_action d (replicate looks (Try c lock false))
misses_of N zero c d lock other = tt
misses_of N (suc looks) c d lock other = (ne_eqb c.0 d.0 other, misses_of N looks c d lock other)

module _ {P L M : Type 0} (I : Ghosts P L M) (laws : MachineLaws I) (owner : M → BufId → Option Tid) (threads : ℕ) (m n : M) (cpus : List (Cpu P M))
    (room taken : ℕ) where
  -- the system with one of the machines, after so many steps
  abbrev shows : M → ℕ → SystemView
  shows o done = shown_in (observed_by I owner o) (map (shown_by I) cpus) room done

  -- CPU c, at number k, has a section under way, and so many polls by its part x took the machine
  -- from m to n
  module _ (k looks : ℕ) (c : CpuId) (x : Cpu P M) (is : Holds (works_by I owner threads) m cpus room taken) (at : slice_get cpus k ≡ Some x) (same : k ≡ c.0)
      (spun : Spun I.Coupled I.opening I.machine_id I.history I.room I.ActsFor I.MayHold looks m n)
      (tries : I.IsStepwise → Misses (I.cpu_of x.part) looks (I.acts m) (I.acts n)) (still : looks ≡ 0 → n ≡ m)
      (live : 0 < looks → own_reason (shown_by I x) ≡ None) (space : taken + looks ≤ room) where
    legal : AreLegal (I.acts n)
    legal = laws.legal n (I.cpu_of x.part) (spun.acts (I.cpu_of x.part) (laws.own_cpu x.part m (is.each k x at).holds.0))

    number : I.cpu_of x.part ≡ c
    number = (is.each k x at).holds.1 ∙ (is.each k x at).number_is ∙ ap (λ (j : ℕ). cpu_at j) same

    before : IsRunState (shows m taken)
    before = moment I laws owner threads m cpus room taken is

    -- no call takes effect
    after : IsRunState (shows n (taken + looks))
    after = grind (arith, before)

    -- the polls are steps of the schedule
    pub spins_lead : Leads I.IsStepwise (shows m taken) (replicate looks c) (shows n (taken + looks))
    spins_lead = go looks refl
      where
        go : (some : ℕ) → looks ≡ some → Leads I.IsStepwise (shows m taken) (replicate some c) (shows n (taken + looks))
        go zero none =
            let stays : taken + looks ≡ taken = omega (arith, none) in
            subst (λ (done : ℕ). Leads I.IsStepwise (shows m taken) [] (shows n done)) (sym stays)
            (subst (λ (o : M). Leads I.IsStepwise (shows m taken) [] (shows o taken)) (sym (still none)) (leads_nowhere I.IsStepwise (shows m taken)))
        go (suc more) is_more =
            misses_lead I.IsStepwise c (shows m taken) (shown_by I x)
            (subst (λ (j : ℕ). slice_get (map (shown_by I) cpus) j ≡ Some (shown_by I x)) same (shows_at (shown_by I) cpus k x at))
            (live (omega (arith, is_more))) more (shows n (taken + looks))
            (record { caps = ap caps_in spun.opening; homes = ap homes_in spun.opening; programs = refl; count = refl; limits = refl; room = refl })
            (record {
              cpus = refl;
              room = refl;
              taken = ap (λ (j : ℕ). taken + j) is_more;
              used = space;
              tries = grind (arith, named_misses, number);
              legal = legal_renamed name_of (I.acts n) legal;
              order = ap (λ (l : List Entry). reverse l) spun.history;
              before = before;
              now = after;
            })

    -- and all holds as before
    pub spins_keep : Holds (works_by I owner threads) n cpus room (taken + looks)
    spins_keep = record {
      each = λ j z there.
          let before = is.each j z there in
          record {
            number_is = before.number_is;
            holds = grind (arith, before);
          };
      some = is.some;
      most = is.most;
      crowd = rw spun.opening is.crowd;
      acts_for = λ d exists. spun.acts d (is.acts_for d exists);
      known = rw spun.history is.known;
      within = rw spun.opening is.within;
      rest = λ step d past exists.
          let missed = tries step in
          let apart : (I.cpu_of x.part).0 ≢ d.0 =
          λ e. let local : (I.cpu_of x.part).0 ≡ c.0 = ap (λ (b : CpuId). b.0) number in omega (arith, e, local, same, past, inside) in
          ap (λ l. phase d l) missed.grows ∙ phase_others d (replicate looks (Try (I.cpu_of x.part) missed.lock false)) (I.acts m)
          (misses_of TowerName looks (I.cpu_of x.part) d missed.lock apart) ∙ is.rest step d past exists;
      holders = λ d past exists holds. is.holders d past exists (spun.holders d holds);
      short = let short = is.short in let history = ap (λ l. length l) spun.history in omega (arith, short, history);
      used = space;
      small = is.small;
      enough = let enough = is.enough in let left = spun.room in omega (arith, enough, left);
      sound = (
        is.sound.0 ∙ ap (λ (l : List CpuId). length l) (sym (ap homes_in spun.opening)),
        λ step. reached_alone I.IsStepwise c looks (shows m taken) (shows n (taken + looks)) inside_shown spins_lead step (is.sound.1 step),
      );
    }
      where
        inside : k < length cpus
        inside = slice_get_within cpus k x at

        inside_shown : c.0 < length (map (shown_by I) cpus)
        inside_shown = rw (← same) (slice_get_within (map (shown_by I) cpus) k (shown_by I x) (shows_at (shown_by I) cpus k x at))
