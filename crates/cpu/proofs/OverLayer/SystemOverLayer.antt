-- A system over a layer of message calls, after a step of one of its CPUs.
use Rattle.std.proofs.{lemmas.{List.{length-map, length-set}, Option.slice_get_within}, Common.{◌≡◌, ℕ, ◌+◌, ◌<◌, List, length, map, Option, Some, slice_set}}
use Rattle.std.{proofs.Common.{vec_capacity, ap, arith, sym, subst, ◌∙◌}, specs.{Prelude.slice_get, List.AllByRecursion}}
use Rattle.layer_traits.specs.{Blocks.{Capacities.caps_in, QueueBlocks.homes_in}, Views.OwnParts.threads_in, declared.call_layers.CallLayer.Ghosts}
use Rattle.layer_traits.specs.{declared.steps.Step.TheVariants.Stepped, Polling.Along.IsStep, Threads.{OnePlace.cpu_at, Places.Stands}}
use Rattle.cpu.proofs.{ListFacts.ListReads.{map_twice, shows_same, shown_at, shows_at}, WholeSystems.InvariantOverSteps.{Holds, Works, cpu_stepped}}
use Rattle.cpu.proofs.{WholeSystems.OneOrder.Has, StepTable.{ReachedSystems.{Observed, shown_in, reached_on}, TableSystems.shown_step}}
use Rattle.cpu.specs.{declared.cpus.Cpu.Cpu, Claims.{CpuView, cpu_shown}, CpuSteps.{IsCpuAt, IsTabledAt, Leaves, WentAt}, Sound.IsReachedByTable}
use Rattle.{cpu.specs.{Systems.{SteppedByTable, IsAt, SamePlan}, Table.Steps.cpu_step, Tower.Composed.named}, event_log.specs.declared.ids.BufId.BufId}
use Rattle.event_log.specs.{declared.ids.{TheConstants.CPUS, Tid.Tid, CpuId.CpuId}, Actions.AreLegal}

-- what a CPU shows
abbrev pub shown_by : {P L M : Type 0} → Ghosts P L M → Cpu P M → CpuView
shown_by I x = cpu_shown (threads_in (I.local x.part)) x.guests.items x.trace.items x.limit (I.is_inside x.part) (I.local x.part)

-- what the machine reports, including the owners of its locks
abbrev pub observed_by : {P L M : Type 0} → Ghosts P L M → (M → BufId → Option Tid) → M → Observed
observed_by I owner m = record {
  caps = caps_in (I.opening m);
  homes = homes_in (I.opening m);
  history = I.history m;
  wait_lists = I.wait_lists m;
  owner = owner m;
  moves = I.moves m;
  acts = I.acts m;
}

-- the CPUs of a system of so many threads
abbrev pub works_by : {P L M : Type 0} → Ghosts P L M → (M → BufId → Option Tid) → ℕ → Works M (Cpu P M)
works_by I owner threads = record {
  Coupled = λ x m. I.Coupled x.part m;
  number = λ x. x.number;
  cpu = λ x. I.cpu_of x.part;
  shown = shown_by I;
  call_states = λ x. (I.local x.part).call_states;
  under_way = λ x. I.under_way x.part;
  capacity = λ x. vec_capacity x.trace;
  ActsFor = λ m c. I.ActsFor m c;
  MayHold = λ m c. I.MayHold m c;
  IsStepwise = I.IsStepwise;
  told = observed_by I owner;
  left = λ m. I.room m;
  Tabled = λ m x. I.IsStepwise → IsTabledAt I m x;
  Sound = λ m cpus space done. (threads ≡ length (homes_in (I.opening m)))
      × (I.IsStepwise → IsReachedByTable (shown_in (observed_by I owner m) (map (shown_by I) cpus) space done));
}

module _ {P L M : Type 0} (I : Ghosts P L M) (owner : M → BufId → Option Tid) (threads : ℕ) where
  abbrev W : Works M (Cpu P M)
  W = works_by I owner threads

  -- after a step of CPU number k, from x to y, the system keeps its plan
  pub plan_preserved : (m n : M) (cpus : List (Cpu P M)) (room taken later k : ℕ) (x y : Cpu P M) → slice_get cpus k ≡ Some x → Leaves I m x n y
      → SamePlan (shown_in (observed_by I owner m) (map (shown_by I) cpus) room taken)
      (shown_in (observed_by I owner n) (map (shown_by I) (slice_set cpus k y)) room later)
  plan_preserved m n cpus room taken later k x y at left = grind (arith, map_twice, shows_same, length-map, length-set)

  -- CPU c, at number k, took a step of the step table, from x to y
  module _ (m n : M) (cpus : List (Cpu P M)) (room taken k : ℕ) (c : CpuId) (x y : Cpu P M) (is : Holds W m cpus room taken) (at : slice_get cpus k ≡ Some x)
      (same : k ≡ c.0) (left : Leaves I m x n y) (live : taken < room) (legal : AreLegal (I.acts n)) (went : I.IsStepwise → WentAt I m x n y Stepped) where
    -- so did the table's system
    pub by_table : I.IsStepwise → SteppedByTable c (shown_in (observed_by I owner m) (map (shown_by I) cpus) room taken)
        (shown_in (observed_by I owner n) (map (shown_by I) (slice_set cpus k y)) room (taken + 1)) Stepped
    by_table step setup goes =
        let number : x.number ≡ c = (is.each k x at).number_is ∙ ap (λ (j : ℕ). cpu_at j) same in
        shown_step (shown_by I) (λ d. I.ActsFor m d) setup c cpus k x y (I.acts m) (I.acts n) room taken at same
        (subst (λ (d : CpuId). IsStep (λ a. I.ActsFor m a) (cpu_step setup d) (shown_by I x).cpu_local (shown_by I y).cpu_local (named (I.acts m))
        (named (I.acts n)) Stepped) number (went step setup (goes.each k (shown_by I x) (shows_at (shown_by I) cpus k x at)))) is.acts_for legal (λ full. omega
        (arith, full, live))

    -- and all holds as before
    pub went_on : I.Coupled y.part n → IsCpuAt I n y → (I.IsStepwise → IsTabledAt I n y) → AllByRecursion (λ e. e.cpu.0 < CPUS) (I.history n)
        → Holds W n (slice_set cpus k y) room (taken + 1)
    went_on coupled keeps table known =
        let there = slice_get_within (map (shown_by I) cpus) k (shown_by I x) (shows_at (shown_by I) cpus k x at) in
        cpu_stepped W m n cpus room taken k x y is (
          is.sound.0 ∙ ap (λ (l : List CpuId). length l) (sym (ap homes_in left.opening)),
          λ step. reached_on c _ _ Stepped (subst (λ (j : ℕ). j < length (map (shown_by I) cpus)) same there)
              (plan_preserved m n cpus room taken (taken + 1) k x y at left) (by_table step) (is.sound.1 step),
        ) at left.number left.cpu coupled keeps table (λ z before step. rw left.opening (before step)) (λ z other there. left.others z.part other there)
        left.acts
        left.holders left.history left.grows known (ap homes_in left.opening) (ap caps_in left.opening) left.room live

-- from the invariant of each CPU to what is shown of it
pub cpus_have : {P L M : Type 0} (I : Ghosts P L M) (m : M) (cpus : List (Cpu P M))
    → ((k : ℕ) (x : Cpu P M) → slice_get cpus k ≡ Some x
    → IsAt (λ y. I.Coupled y.part m × (I.cpu_of y.part ≡ y.number) × IsCpuAt I m y × (I.IsStepwise → IsTabledAt I m y)) (λ y. y.number) k x)
    → ((part : P) → I.Coupled part m → Stands (homes_in (I.opening m)) (I.cpu_of part) (I.moves m) (threads_in (I.local part)))
    → (k : ℕ) (p : CpuView) → slice_get (map (shown_by I) cpus) k ≡ Some p → Has (homes_in (I.opening m)) (length (caps_in (I.opening m))) (I.history m)
    (I.moves m) k p
cpus_have {P} {M} I m cpus each stand = shown_at (shown_by I)
    (λ k p. Has (homes_in (I.opening m)) (length (caps_in (I.opening m))) (I.history m) (I.moves m) k p) cpus has_of
  where
    has_of : (k : ℕ) (x : Cpu P M) → slice_get cpus k ≡ Some x → Has (homes_in (I.opening m)) (length (caps_in (I.opening m))) (I.history m) (I.moves m) k
        (shown_by I x)
    has_of k x there = grind arith
