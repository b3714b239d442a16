-- What the machine and the parts of a system report of its buffers and of the places of its
-- threads: some of them reports it.
use Rattle.std.proofs.{Common.{◌≡◌, ℕ, ◌+◌, ◌<◌, ◌≤◌, List, length, Option, Some, None, refl, ◌∙◌, subst, arith}, lemmas.Bool.cases_eq}
use Rattle.std.{proofs.lemmas.{Bool.cases_lt, Option.{slice_get_read, slice_get_within}}, specs.Prelude.{slice_get, slice_index_or}}
use Rattle.event_log.specs.{declared.{entries.Entry.Entry, ids.{CpuId.CpuId, Tid.Tid, TheConstants.CPUS}}, Actions.Action}
use Rattle.layer_traits.specs.{declared.call_layers.CallLayer.Ghosts, Threads.{OnePlace.cpu_at, Places.{AreMoves, Step, home_of, where_is}}}
use Rattle.{layer_traits.{specs.Views.Observed.{IsObservedAs, ReadsPlace}, proofs.PlaceLemmas.hand_home}, cpu.specs.{declared.cpus.Cpu.Cpu, Systems.IsSystem}}
use Rattle.cpu.{specs.{Systems.IsAt, CpuSteps.{IsCpuAt, IsTabledAt}}, proofs.ListFacts.ListReads.there_is}

-- the holder of a system's machine acts for CPU 0
pub acts_first : {X N : Type 0} {IsOne : X → Type 0} {number : X → CpuId} {ActsFor MayHold : CpuId → Type 0} {IsStepwise : Type 0} {acts : List (Action N)}
    {cpus : List X} {homes : List CpuId} {history : List Entry} {room taken left : ℕ} {Sound : Type 0}
    → IsSystem IsOne number ActsFor MayHold IsStepwise acts cpus homes history room taken left Sound → ActsFor (cpu_at 0)
acts_first is = let least = is.some in let most = is.most in is.acts_for (cpu_at 0) (omega (arith, least, most))

-- a loop over the CPUs: what holds of those before and of this one holds of those up to here
pub up_to : {X : Type 0} (P : X → Type 0) (xs : List X) (i : ℕ) (y : X) → i < length xs → y ≡ slice_index_or xs i y → P y
    → ((k : ℕ) (x : X) → k < i → slice_get xs k ≡ Some x → P x) → (k : ℕ) (x : X) → k < i + 1 → slice_get xs k ≡ Some x → P x
up_to P xs i y within reads here before k x below at = grind (arith, cases_eq, slice_get_read)

-- and of all of them at the end of the loop
pub up_to_end : {X : Type 0} (P : X → Type 0) (xs ys : List X) (i : ℕ) → ys ≡ xs → length ys ≤ i → ((k : ℕ) (x : X) → k < i → slice_get ys k ≡ Some x → P x)
    → (k : ℕ) (x : X) → slice_get xs k ≡ Some x → P x
up_to_end P xs ys i same over before k x at = grind (arith, slice_get_within)

-- an element that a loop reads
pub item_at : {X : Type 0} (xs ys : List X) (i : ℕ) (x : X) → ys ≡ xs → i < length ys → x ≡ slice_index_or ys i x → slice_get xs i ≡ Some x
item_at xs ys i x same within reads = subst (λ l. slice_get l i ≡ Some x) same (slice_get_read ys (length ys) i x refl within reads)

module _ {P L M : Type 0} (I : Ghosts P L M) (m : M) (cpus : List (Cpu P M))
    (each : (k : ℕ) (x : Cpu P M) → slice_get cpus k ≡ Some x
    → IsAt (λ y. I.Coupled y.part m × (I.cpu_of y.part ≡ y.number) × IsCpuAt I m y × (I.IsStepwise → IsTabledAt I m y)) (λ y. y.number) k x)
    (holders : (c : CpuId) → length cpus ≤ c.0 → c.0 < CPUS → I.MayHold m c → ⊥) where
  module _ {A : Type 0} {here : P → Option A} {home : Option A} {truth : A}
      (told : IsObservedAs (λ (p : P). I.Coupled p m) (λ (p : P). I.cpu_of p) (I.MayHold m) here home truth) (ys : List (Cpu P M)) (i : ℕ)
      (same : ys ≡ cpus) where
    -- what a part of the system reports is true
    pub told_here : (x : Cpu P M) (answer : A) → i < length ys → x ≡ slice_index_or ys i x → here x.part ≡ Some answer → answer ≡ truth
    told_here x answer within reads is = told.by_part x.part answer (each i x (item_at cpus ys i x same within reads)).holds.0 is

    -- what a CPU has in its hands, some part of the system reports
    pub told_somewhere : home ≡ None → length ys ≤ i → ((k : ℕ) (x : Cpu P M) → k < i → slice_get ys k ≡ Some x → here x.part ≡ None) → ⊥
    told_somewhere none over nobody =
        let held = told.somewhere none in
        let there = there_is cpus held.cpu.0 (grind (arith, cases_lt, holders held.cpu, held.known, held.inside)) in
        let is = each held.cpu.0 there.0 there.1 in
        held.has there.0.part (is.holds.1 ∙ is.number_is) is.holds.0 (up_to_end (λ x. here x.part ≡ None) cpus ys i same over nobody held.cpu.0 there.0 there.1)

  -- for a thread whose home CPU is in the system, some part is not silent
  pub wait_channel_here : (IsSilent : P → Type 0) (homes : List CpuId) (moves : List Step) (t : Tid) → AreMoves homes moves
      → ((u : Tid) (home : CpuId) → home_of homes u ≡ Some home → home.0 < length cpus)
      → ReadsPlace (λ p. I.Coupled p m) (λ p. I.cpu_of p) (I.MayHold m) IsSilent (home_of homes t) (where_is homes moves t)
      → ((k : ℕ) (x : Cpu P M) → slice_get cpus k ≡ Some x → IsSilent x.part) → ⊥
  wait_channel_here IsSilent homes moves t moved within tells silent =
      let there = there_is cpus tells.cpu.0 (grind (arith, hand_home, tells.may, cases_lt)) in
      let is = each tells.cpu.0 there.0 there.1 in
      tells.has there.0.part (is.holds.1 ∙ is.number_is) is.holds.0 (silent tells.cpu.0 there.0 there.1)
