-- One step of one CPU of a system keeps the invariant of the system.
use Rattle.std.proofs.Common.{◌≡◌, ◌≢◌, ◌⊎◌, inl, inr, ℕ, ◌+◌, ◌<◌, ◌≤◌, List, [], ◌∷◌, ◌++◌, length, Option, Some, refl, ap, sym, ◌∙◌, subst, arith, slice_set}
use Rattle.std.{proofs.lemmas.{Bool.{cases_eq, ne_eqb}, List.{length-append, length-set}, Option.slice_get_within}, specs.Prelude.slice_get}
use Rattle.std.specs.List.{AllByRecursion}
use Rattle.event_log.specs.{declared.{entries.Entry.Entry, ids.{CpuId.CpuId, TheConstants.{CPUS, THREADS}}}, Actions.{Action, cpu_of_action, phase}}
use Rattle.{event_log.{specs.History.{AreForeign, AreOthers}, proofs.{Foreign.phase_others, Same.same_cpu_self}}, layer_traits.specs.Layers.BufferLaw.UnderWay}
use Rattle.layer_traits.specs.{Layers.BufferLaw.cpu_of_entry, Threads.{OnePlace.cpu_at, Places.Threads}, declared.call_states.CallState.CallState}
use Rattle.cpu.specs.{declared.guests.Guest.Guest, Cpus.{ActsGrow, IsCpu, SeenGrows, of_cpu}, Claims.CpuView, Systems.{IsAt, IsSystem}}
use Rattle.cpu.proofs.{CpuSteps.{CpuStates.valid_cpu, PassSteps.seen_stays}, ListFacts.{GuestLists.cpu_same, ListReads.{all_both, all_by, all_left, all_right}}}
use Rattle.cpu.proofs.{ListFacts.ListReads.{set_else, set_there}, StepTable.ReachedSystems.Observed}

-- if the holder acts for each CPU that may exist, no effect is the environment's
pub no_others : (ActsFor : CpuId → Type 0) (others : List Entry) → ((c : CpuId) → c.0 < CPUS → ActsFor c) → AllByRecursion (λ e. e.cpu.0 < CPUS) others
    → AreForeign ActsFor cpu_of_entry others → others ≡ []
no_others ActsFor [] all known foreign = refl
no_others ActsFor (e ∷ others) all known foreign = absurd (cc ((foreign e.cpu (all e.cpu known.0)).0, same_cpu_self e.cpu))

-- effects of one CPU are none of another's
others_of : (k c : CpuId) (mine : List Entry) → c.0 ≢ k.0 → AllByRecursion (λ e. e.cpu ≡ k) mine → AreOthers cpu_of_entry c mine
others_of k c [] other local = tt
others_of k c (e ∷ mine) other local = (
  ne_eqb e.cpu.0 c.0 (λ same. other (sym (sym (ap (λ (d : CpuId). d.0) local.0) ∙ same))),
  others_of k c mine other local.1,
)

acts_of : {N : Type 0} (k c : CpuId) (mine : List (Action N)) → c.0 ≢ k.0 → AllByRecursion (λ a. cpu_of_action a ≡ k) mine → AreOthers cpu_of_action c mine
acts_of k c [] other local = tt
acts_of k c (a ∷ mine) other local = (
  ne_eqb (cpu_of_action a).0 c.0 (λ same. other (sym (sym (ap (λ (d : CpuId). d.0) local.0) ∙ same))),
  acts_of k c mine other local.1,
)

-- a step of CPU k leaves the effects of another CPU for which the holder acts
pub same_of : (ActsFor : CpuId → Type 0) (k c : CpuId) (old new : List Entry) → c.0 ≢ k.0
    → ActsFor c → SeenGrows ActsFor k old new → of_cpu c new ≡ of_cpu c old
same_of ActsFor k c old new other acts grows =
    ap (λ (l : List Entry). of_cpu c l) grows.is
    ∙ mine_gone grows.mine (others_of k c grows.mine other grows.local) ∙ cpu_same ActsFor c grows.others old grows.foreign acts
  where
    mine_gone : (mine : List Entry) → AreOthers cpu_of_entry c mine → of_cpu c (mine ++ (grows.others ++ old)) ≡ of_cpu c (grows.others ++ old)
    mine_gone [] theirs = refl
    mine_gone (e ∷ mine) theirs = rw theirs.0 (mine_gone mine theirs.1)

-- and what it does
phase_stays : {N : Type 0} (ActsFor : CpuId → Type 0) (k c : CpuId) (old new : List (Action N)) → c.0 ≢ k.0 → ActsFor c → ActsGrow ActsFor k old new
    → phase c new ≡ phase c old
phase_stays ActsFor k c old new other acts grows =
    ap (λ (l : List (Action _)). phase c l) grows.is
    ∙ phase_others c grows.mine (grows.others ++ old) (acts_of k c grows.mine other grows.local) ∙ phase_others c grows.others old (grows.foreign c acts)

-- another CPU's step leaves the invariant of a CPU
pub cpu_frame : (homes homes2 : List CpuId) (buffers buffers2 : ℕ) (history seen2 : List Entry) (local : Threads) (call_states : List CallState)
    (under_way : Option UnderWay) (number : CpuId) (guests : List (Option Guest)) (trace : List Entry) (limit capacity : ℕ) → homes2 ≡ homes
    → buffers2 ≡ buffers → of_cpu number seen2 ≡ of_cpu number history
    → IsCpu homes buffers history local call_states under_way number guests trace limit capacity
    → IsCpu homes2 buffers2 seen2 local call_states under_way number guests trace limit capacity
cpu_frame homes homes2 buffers buffers2 history seen2 local call_states under_way number guests trace limit capacity same_homes same_buffers same is =
    rw same_homes (rw same_buffers (seen_stays (valid_cpu is) seen2 same))

-- the system after a step of CPU k, which left y in its place
pub system_step : {X N : Type 0} (One Two : X → Type 0) (number : X → CpuId) (Acts1 Acts2 Holds1 Holds2 : CpuId → Type 0) (IsStepwise : Type 0)
    (acts1 acts2 : List (Action N)) (cpus : List X) (homes homes2 : List CpuId) (history seen2 : List Entry) (room taken left left2 k : ℕ) (y : X)
    (Sound1 Sound2 : Type 0) → IsSystem One number Acts1 Holds1 IsStepwise acts1 cpus homes history room taken left Sound1 → Sound2 → k < length cpus
    → number y ≡ cpu_at k → Two y → ((j : ℕ) (x : X) → j ≢ k → j < CPUS → IsAt One number j x → Two x) → ((c : CpuId) → Acts1 c → Acts2 c)
    → ((c : CpuId) → c ≢ cpu_at k → Acts1 c → Holds2 c → Holds1 c) → SeenGrows Acts1 (cpu_at k) history seen2
    → (IsStepwise → ActsGrow Acts1 (cpu_at k) acts1 acts2) → AllByRecursion (λ e. e.cpu.0 < CPUS) seen2 → homes2 ≡ homes → left ≤ left2 + 1 → taken < room
    → IsSystem Two number Acts2 Holds2 IsStepwise acts2 (slice_set cpus k y) homes2 seen2 room (taken + 1) left2 Sound2
system_step One Two number Acts1 Acts2 Holds1 Holds2 IsStepwise acts1 acts2 cpus homes homes2 history seen2 room taken left left2 k y
    Sound1 Sound2 is sound within numbered here there goes holders grows does known
    same room_left live = record {
      each = λ j x at. each_at j x at (cases_eq j k);
      some = let some = is.some in omega (arith, count, some);
      most = let most = is.most in omega (arith, count, most);
      crowd = subst (λ (l : List CpuId). length l ≤ THREADS) (sym same) is.crowd;
      acts_for = λ c exists. goes c (is.acts_for c exists);
      known = rw count (subst (λ (l : List Entry). AllByRecursion (λ e. e.cpu.0 < length cpus) l) (sym seen_is) all_known);
      within = λ t home at. let inside = is.within t home (ap (λ (h : List CpuId). slice_get h t.0) (sym same) ∙ at) in omega (arith, count, inside);
      rest = λ step c past exists. let out : length cpus ≤ c.0 = omega (arith, count, past) in
          phase_stays Acts1 (cpu_at k) c acts1 acts2 (λ e. omega (arith, e, out, within)) (is.acts_for c exists) (does step) ∙ is.rest step c out exists;
      holders = λ c past exists holds. let out : length cpus ≤ c.0 = omega (arith, count, past) in
          let apart : c ≢ cpu_at k = λ e. let same : c.0 ≡ k = ap (λ (d : CpuId). d.0) e in omega (arith, same, out, within) in
          is.holders c out exists (holders c apart (is.acts_for c exists) holds);
      short = let few = grows.few in let short = is.short in let long = length_is in omega (arith, few, short, long);
      used = omega (arith, live);
      small = is.small;
      enough = let enough = is.enough in omega (arith, enough, room_left);
      sound = sound;
    }
  where
    count : length (slice_set cpus k y) ≡ length cpus
    count = length-set cpus k y

    none : grows.others ≡ []
    none = no_others Acts1 grows.others is.acts_for
        (all_left (λ (e : Entry). e.cpu.0 < CPUS) grows.others history
        (all_right (λ (e : Entry). e.cpu.0 < CPUS) grows.mine (grows.others ++ history)
        (subst (λ (l : List Entry). AllByRecursion (λ e. e.cpu.0 < CPUS) l) grows.is known)))
        grows.foreign

    seen_is : seen2 ≡ grows.mine ++ history
    seen_is = grows.is ∙ ap (λ (l : List Entry). grows.mine ++ (l ++ history)) none

    length_is : length seen2 ≡ length grows.mine + length history
    length_is = ap (λ (l : List Entry). length l) seen_is ∙ length-append grows.mine history

    all_known : AllByRecursion (λ e. e.cpu.0 < length cpus) (grows.mine ++ history)
    all_known = grind (arith, all_both, all_by)

    each_at : (j : ℕ) (x : _) → slice_get (slice_set cpus k y) j ≡ Some x → (j ≡ k) ⊎ (j ≡ k → ⊥) → IsAt Two number j x
    each_at j x at (inl same_one) = grind (arith, set_there)
    each_at j x at (inr other) =
        let before = is.each j x (sym (set_else cpus k j y other) ∙ at) in
        let inside : j < length cpus = slice_get_within cpus j x (sym (set_else cpus k j y other) ∙ at) in
        record { number_is = before.number_is; holds = there j x other (omega (arith, inside, is.most)) before }

-- What a machine M and the CPUs X that work in it report. Of a CPU: whether its part agrees with
-- the machine, its number and that of its part, what it shows, its call states, what is under way,
-- and how many entries its trace has memory for. Of the machine: for which CPUs it acts, which may
-- hold a lock, whether it does one action a step, what it reports, and how much room is left. Then
-- the further conditions on a CPU and on the system.
pub record Works (M X : Type 0) : Type 1 where
  pub Coupled : X → M → Type 0
  pub number : X → CpuId
  pub cpu : X → CpuId
  pub shown : X → CpuView
  pub call_states : X → List CallState
  pub under_way : X → Option UnderWay
  pub capacity : X → ℕ
  pub ActsFor : M → CpuId → Type 0
  pub MayHold : M → CpuId → Type 0
  pub IsStepwise : Type 0
  pub told : M → Observed
  pub left : M → ℕ
  pub Tabled : M → X → Type 0
  pub Sound : M → List X → ℕ → ℕ → Type 0

module _ {M X : Type 0} (of : Works M X) where
  -- the invariant of one CPU
  abbrev Keeps : M → X → Type 0
  Keeps m x = IsCpu (of.told m).homes (length (of.told m).caps) (of.told m).history (of.shown x).local (of.call_states x) (of.under_way x) (of.number x)
      (of.shown x).guests (of.shown x).trace (of.shown x).limit (of.capacity x)

  abbrev IsOne : M → X → Type 0
  IsOne m x = of.Coupled x m × (of.cpu x ≡ of.number x) × Keeps m x × of.Tabled m x

  abbrev pub Holds : M → List X → ℕ → ℕ → Type 0
  Holds m cpus room taken = IsSystem (IsOne m) of.number (of.ActsFor m) (of.MayHold m) of.IsStepwise (of.told m).acts cpus (of.told m).homes
      (of.told m).history room taken (of.left m) (of.Sound m cpus room taken)

  -- a CPU took a step
  pub cpu_stepped : (m m2 : M) (cpus : List X) (room taken k : ℕ) (x y : X) → Holds m cpus room taken → of.Sound m2 (slice_set cpus k y) room (taken + 1)
      → slice_get cpus k ≡ Some x → of.number y ≡ of.number x → of.cpu y ≡ of.number x → of.Coupled y m2 → Keeps m2 y → of.Tabled m2 y
      → ((z : X) → of.Tabled m z → of.Tabled m2 z) → ((z : X) → of.cpu z ≢ of.number x → of.Coupled z m → of.Coupled z m2)
      → ((c : CpuId) → of.ActsFor m c → of.ActsFor m2 c) → ((c : CpuId) → c ≢ of.number x → of.ActsFor m c → of.MayHold m2 c → of.MayHold m c)
      → SeenGrows (of.ActsFor m) (of.number x) (of.told m).history (of.told m2).history
      → (of.IsStepwise → ActsGrow (of.ActsFor m) (of.number x) (of.told m).acts (of.told m2).acts) → AllByRecursion (λ e. e.cpu.0 < CPUS) (of.told m2).history
      → (of.told m2).homes ≡ (of.told m).homes → (of.told m2).caps ≡ (of.told m).caps → of.left m ≤ of.left m2 + 1 → taken < room
      → Holds m2 (slice_set cpus k y) room (taken + 1)
  cpu_stepped m m2 cpus room taken k x y is sound at numbered of_cpu_is coupled here tabled tables others goes holders grows does known same_homes same_caps
      room_left live =
      system_step (IsOne m) (IsOne m2) of.number (of.ActsFor m) (of.ActsFor m2) (of.MayHold m) (of.MayHold m2) of.IsStepwise (of.told m).acts (of.told m2).acts
      cpus (of.told m).homes (of.told m2).homes (of.told m).history (of.told m2).history room taken (of.left m) (of.left m2) k y (of.Sound m cpus room taken)
      (of.Sound m2 (slice_set cpus k y) room (taken + 1)) is sound
      (slice_get_within cpus k x at) (numbered ∙ is_k) (coupled, of_cpu_is ∙ sym numbered, here, tabled) there goes
      (subst (λ (d : CpuId). (c : CpuId) → c ≢ d → of.ActsFor m c → of.MayHold m2 c → of.MayHold m c) is_k holders)
      (subst (λ (c : CpuId). SeenGrows (of.ActsFor m) c (of.told m).history (of.told m2).history) is_k grows)
      (λ step. subst (λ (c : CpuId). ActsGrow (of.ActsFor m) c (of.told m).acts (of.told m2).acts) is_k (does step)) known same_homes room_left live
    where
      is_k : of.number x ≡ cpu_at k
      is_k = (is.each k x at).number_is

      there : (j : ℕ) (z : X) → j ≢ k → j < CPUS → IsAt (IsOne m) of.number j z → IsOne m2 z
      there j z other below before =
          let apart : (of.number z).0 ≢ (of.number x).0 = grind (arith, is_k) in
          let act : of.ActsFor m (of.number z) = subst (λ (c : CpuId). of.ActsFor m c) (sym before.number_is) (is.acts_for (cpu_at j) below) in (
            others z (λ e. apart (ap (λ (c : CpuId). c.0) (sym before.holds.1 ∙ e))) before.holds.0,
            before.holds.1,
            cpu_frame (of.told m).homes (of.told m2).homes (length (of.told m).caps) (length (of.told m2).caps) (of.told m).history (of.told m2).history
                (of.shown z).local (of.call_states z) (of.under_way z) (of.number z) (of.shown z).guests (of.shown z).trace (of.shown z).limit (of.capacity z)
                same_homes (ap (λ (l : List ℕ). length l) same_caps)
                (same_of (of.ActsFor m) (of.number x) (of.number z) (of.told m).history (of.told m2).history apart act grows)
                before.holds.2,
            tables z before.holds.3,
          )

-- why a CPU takes a step, or takes none
