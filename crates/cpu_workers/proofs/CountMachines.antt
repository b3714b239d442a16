-- The number of an owned machine at rest: the number of its actions that released the lock.
use Rattle.std.{proofs.Common.{arith, ◌≡◌, ℕ, ◌%◌, ◌^◌, true, List, [], ◌∷◌, Option, Some, None, refl, sym, ap, ◌∙◌}, specs.Prelude.IsSome}
use Rattle.event_log.specs.{declared.ids.{CpuId.CpuId, LockId.LockId}, Sections.{Section, block_after, sections_in}, Actions.{Action, Rests, gives, phase}}
use Rattle.{layer_traits.specs.{Views.Owned.IsObserved, Polling.Plans.is_in_section}, cpu_workers.specs.{declared.counting.AddOne.AddOne, Counts.counting}}
use Rattle.cpu_workers.{specs.Counts.sections_at, proofs.Counts.number_is}

-- as many sections as releases
pub gives_are_sections : {E : Type 0} (lock : LockId) (acts : List (Action E)) → sections_at lock (sections_in acts) ≡ gives lock acts
gives_are_sections lock [] = refl
gives_are_sections lock (a ∷ acts) = grind (arith, gives_are_sections lock acts)

-- an option that is not None is Some
pub some_where_not_none : {X : Type 0} (o : Option X) → (o ≡ None → ⊥) → IsSome o
some_where_not_none o not_none = grind arith

-- a block that the sections of a number that was 0 leave is the number of releases
pub block_counts : (opening : LockId → Option ℕ) (lock : LockId) (acts : List (Action AddOne)) (past : List (Section AddOne)) (block : ℕ)
    → opening lock ≡ Some 0 → past ≡ sections_in acts → block_after counting.edited opening lock past ≡ Some block → block ≡ gives lock acts % 2 ^ 64
block_counts opening lock acts past block zeroth history leaves =
    let same : Some block ≡ Some (sections_at lock past % 2 ^ 64) = sym leaves ∙ number_is opening lock past zeroth in
    let number : block ≡ sections_at lock past % 2 ^ 64 = (cc same) in
    number ∙ ap (λ n. n % 2 ^ 64) (ap (sections_at lock) history ∙ gives_are_sections lock acts)

-- the block of a number that no CPU holds is there
pub there_at_rest : {P A : Type 0} (Coupled : P → Type 0) (cpu_of : P → CpuId) (MayHold : CpuId → Type 0) (acts : List (Action AddOne)) (here : P → Option A)
    (home truth : Option A) → ((c : CpuId) → MayHold c → is_in_section (phase c acts) ≡ true) → IsObserved Coupled cpu_of MayHold here home truth
    → ((c : CpuId) → phase c acts ≡ Rests) → home ≡ None → ⊥
there_at_rest Coupled cpu_of MayHold acts here home truth holding shown rests away =
    let held = shown.somewhere away in grind (arith, holding held.cpu held.inside, rests held.cpu)
