-- A step of a system that is taken is the step table's.
use Rattle.std.proofs.{Common.{◌≡◌, ◌≢◌, ℕ, ◌+◌, ◌<◌, List, [], ◌∷◌, ◌++◌, map, Some, refl, ap, ◌∙◌, subst, slice_set, arith}, lemmas.Bool.ne_eqb}
use Rattle.std.{proofs.lemmas.List.map-set, specs.{Prelude.slice_get, List.AllByRecursion}}
use Rattle.event_log.specs.{declared.ids.{CpuId.CpuId, TheConstants.CPUS}, Actions.{Action, AreLegal, cpu_of_action}, History.{AreForeign, IsLawful}}
use Rattle.{event_log.proofs.{Foreign.cpus_of_actions_known, Same.same_cpu_self}, layer_traits.specs.declared.steps.Step.TheVariants.Stepped}
use Rattle.{layer_traits.specs.Polling.Along.IsStep, cpu.specs.Table.{Blocks.Name, Setups.{SystemConfig, CpuLocal}, Steps.{Stepping, cpu_step, system_step}}}
use Rattle.cpu.{specs.{Tower.{Composed.named, Views.TowerName}, Claims.CpuView}, proofs.ListFacts.ListReads.{all_left, all_right, shows_at}}

-- if the holder acts for each CPU that may exist, no action is the environment's
none_else : {N : Type 0} (ActsFor : CpuId → Type 0) (others : List (Action N)) → ((c : CpuId) → c.0 < CPUS → ActsFor c)
    → AllByRecursion (λ a. (cpu_of_action a).0 < CPUS) others → AreForeign ActsFor cpu_of_action others → others ≡ []
none_else ActsFor [] all known foreign = refl
none_else ActsFor (a ∷ others) all known foreign = absurd (cc ((foreign (cpu_of_action a) (all (cpu_of_action a) known.0)).0, same_cpu_self (cpu_of_action a)))

-- every action, under either name, is of a CPU that may exist
renamed_known : (acts : List (Action TowerName)) → IsLawful (λ before a. (cpu_of_action a).0 < CPUS) acts
    → AllByRecursion (λ a. (cpu_of_action a).0 < CPUS) (named acts)
renamed_known [] lawful = tt
renamed_known (a ∷ past) lawful = let before = renamed_known past lawful.1 in grind (arith, lawful.0)

-- a system after a step
abbrev left : List CpuLocal → List (Action Name) → ℕ → ℕ → Stepping
left cpus log room taken = record { next = record { cpus = cpus; log = log; room = room; taken = taken }; answer = Stepped }

-- a CPU's step according to the table is the system's
table_step : (ActsFor : CpuId → Type 0) (setup : SystemConfig) (c : CpuId) (cpus : List CpuLocal) (log log2 : List (Action Name)) (room taken : ℕ)
    (p q : CpuLocal)
    → slice_get cpus c.0 ≡ Some p → IsStep ActsFor (cpu_step setup c) p q log log2 Stepped → ((d : CpuId) → d.0 < CPUS → ActsFor d)
    → AllByRecursion (λ a. (cpu_of_action a).0 < CPUS) log2 → taken ≢ room
    → left (slice_set cpus c.0 q) log2 room (taken + 1) ≡ system_step setup c (record { cpus = cpus; log = log; room = room; taken = taken })
table_step ActsFor setup c cpus log log2 room taken p q at step all known live =
    grind (arith, next, grows, ne_eqb, none)
  where
    none : step.others ≡ []
    none = none_else ActsFor step.others all
        (all_left (λ (a : Action Name). (cpu_of_action a).0 < CPUS) step.others log
        (all_right (λ (a : Action Name). (cpu_of_action a).0 < CPUS) (cpu_step setup c p (step.others ++ log)).acts (step.others ++ log)
        (subst (λ (l : List (Action Name)). AllByRecursion (λ a. (cpu_of_action a).0 < CPUS) l) step.grows known)))
        step.foreign

    next : q ≡ (cpu_step setup c p log).next
    next = step.next ∙ ap (λ (l : List (Action Name)). (cpu_step setup c p (l ++ log)).next) none

    grows : log2 ≡ (cpu_step setup c p log).acts ++ log
    grows = step.grows ∙ ap (λ (l : List (Action Name)). (cpu_step setup c p (l ++ log)).acts ++ (l ++ log)) none

-- a step of one CPU among those that are shown
pub shown_step : {X : Type 0} (shown : X → CpuView) (ActsFor : CpuId → Type 0) (setup : SystemConfig) (c : CpuId) (xs : List X) (k : ℕ) (x y : X)
    (acts acts2 : List (Action TowerName)) (room taken : ℕ) → slice_get xs k ≡ Some x → k ≡ c.0
    → IsStep ActsFor (cpu_step setup c) (shown x).cpu_local (shown y).cpu_local (named acts) (named acts2) Stepped → ((d : CpuId) → d.0 < CPUS → ActsFor d)
    → AreLegal acts2 → taken ≢ room
    → left (map (λ p. p.cpu_local) (map shown (slice_set xs k y))) (named acts2) room (taken + 1)
    ≡ system_step setup c (record { cpus = map (λ p. p.cpu_local) (map shown xs); log = named acts; room = room; taken = taken })
shown_step shown ActsFor setup c xs k x y acts acts2 room taken at same step all legal live =
    let there : slice_get (map (λ (p : CpuView). p.cpu_local) (map shown xs)) c.0 ≡ Some (shown x).cpu_local =
    rw (← same) (shows_at (λ (p : CpuView). p.cpu_local) (map shown xs) k (shown x) (shows_at shown xs k x at)) in
    let written = ap (λ (l : List CpuView). map (λ (p : CpuView). p.cpu_local) l) (map-set shown xs k y)
    ∙ map-set (λ (p : CpuView). p.cpu_local) (map shown xs) k (shown y)
    ∙ ap (λ (j : ℕ). slice_set (map (λ (p : CpuView). p.cpu_local) (map shown xs)) j (shown y).cpu_local) same in
    ap (λ (l : List CpuLocal). left l (named acts2) room (taken + 1)) written
    ∙ table_step ActsFor setup c (map (λ (p : CpuView). p.cpu_local) (map shown xs)) (named acts) (named acts2) room taken (shown x).cpu_local
    (shown y).cpu_local there step all (renamed_known acts2 (cpus_of_actions_known acts2 legal)) live
