-- Natives and what they leave, by their places in the lists.
use Rattle.std.proofs.Common.{◌≡◌, ℕ, zero, suc, ◌+◌, ◌<◌, ◌≤◌, false, All, List, [], ◌∷◌, ◌++◌, length, Some, slice_get, ap, sym, ◌∙◌, subst, arith}
use Rattle.std.{proofs.lemmas.List.Elements.All-from_recursion, specs.{List.AllByRecursion, Prelude.{IfOk, Result}}}
use Rattle.event_log.specs.{declared.ids.{CpuId.CpuId, TheConstants.{BUFFERS, CPUS}}, Actions.{Action, phase}, Buffers.IsCapacity}
use Rattle.{layer_traits.specs.{Threads.OnePlace.cpu_at, Views.Openings.AreOpenable, Polling.Plans.is_in_section}, cpu.specs.Claims.listed}
use Rattle.cpu.{specs.Tower.Views.TowerName, proofs.{ListFacts.ListReads.listed_length, WholeSystems.PlanGuests.listed_more}}
use Rattle.cpu_workers.specs.{Callers.CallerView, Natives.{HasKept, HasLeftCalls, HasLeftMachine, IsNewCaller, own_homes}, Orders.IsTraceOf}
use Rattle.cpu_workers.proofs.Joining.{all_at, all_by_number}

-- natives at new callers are ready, if the buffers are as they need them
pub all_ready : {N T : Type 0} (Needs : N → List ℕ → Type 0) (caller : T → CallerView) (native : T → N) (caps : List ℕ) (natives : List N) (tasks : List T)
    → All (λ n. Needs n caps) natives
    → ((k : ℕ) (t : T) → slice_get tasks k ≡ Some t → IsNewCaller caps (cpu_at k) (caller t) × (slice_get natives k ≡ Some (native t)))
    → All (λ t. ((caller t).calls ≡ []) × Needs (native t) (caller t).caps) tasks
all_ready Needs caller native caps natives tasks needs each = all_by_number (λ t. ((caller t).calls ≡ []) × Needs (native t) (caller t).caps) tasks
    (λ k t at.
    let new = each k t at in
    (new.0.fresh, subst (λ (l : List ℕ). Needs (native t) l) (sym new.0.caps_are) (all_at (λ n. Needs n caps) natives k (native t) needs new.1)))

-- a native that ran from a new caller leaves its calls
pub calls_so : {N : Type 0} (Kept : N → N → CallerView → Type 0) (caps : List ℕ) (c : CpuId) (n first last after : N) (new done : CallerView)
    (acts : List (Action TowerName)) (machine_id : List ℕ) → first ≡ n → after ≡ last → IsNewCaller caps c new → HasKept Kept first new last done
    → HasLeftMachine done acts machine_id → HasLeftCalls Kept caps c n after acts
calls_so Kept caps c n first last after new done acts machine_id before same fresh ran left =
    let cpu : done.cpu ≡ c = ran.same.cpu ∙ fresh.cpu_is in
    let caps_is : done.caps ≡ caps = ran.same.caps ∙ fresh.caps_are in
    record {
      caller = done;
      cpu_is = cpu;
      thread_is = ap (λ t. t.0) ran.same.thread ∙ fresh.thread_is;
      caps_are = caps_is;
      kept = subst (λ x. Kept x after done) before (subst (λ x. Kept first x done) (sym same) ran.kept);
      few = left.few;
      trace = subst (λ (d : CpuId). IsTraceOf d caps acts done.calls) cpu (subst (λ (l : List ℕ). IsTraceOf done.cpu l acts done.calls) caps_is left.trace);
      rests = subst (λ (d : CpuId). is_in_section (phase d acts) ≡ false) cpu left.rests;
    }

-- what follows from a fact of a result is one of it
pub ok_so : {R E : Type 0} (P Q : R → Type 0) (r : Result R E) → ((x : R) → P x → Q x) → IfOk r P → IfOk r Q
ok_so P Q r so holds = grind (arith, so)

-- The homes of natives.

pub homes_more : (n m : ℕ) (homes : List CpuId) → homes ≡ own_homes n → m ≡ suc n → homes ++ cpu_at n ∷ [] ≡ own_homes m
homes_more n m homes same next =
    let zero_plus : n ≡ 0 + n = omega arith in
    ap (λ (l : List CpuId). l ++ cpu_at n ∷ []) same ∙ ap (λ j. own_homes n ++ cpu_at j ∷ []) zero_plus ∙ sym (listed_more cpu_at n 0) ∙ ap own_homes (sym next)

-- each is one of the CPUs
homes_within : (n k d : ℕ) → k + n ≤ d → AllByRecursion (λ (h : CpuId). h.0 < d) (listed cpu_at k n)
homes_within zero k d below = tt
homes_within (suc n) k d below = (omega (arith, below), homes_within n (k + 1) d (omega (arith, below)))

pub are_openable : (n : ℕ) (caps : List ℕ) → 0 < n → n ≤ CPUS → length caps ≤ BUFFERS → All IsCapacity caps → AreOpenable n caps (own_homes n)
are_openable n caps some few buffers capacities = record {
  some_cpus = omega (arith, some);
  most_cpus = few;
  buffers = buffers;
  capacities = capacities;
  threads = let count = listed_length cpu_at n 0 in omega (arith, count, few);
  homes_exist = All-from_recursion (λ (h : CpuId). h.0 < n) (own_homes n) (homes_within n 0 n (omega arith));
}
