-- Schedules: what the steps of a list of CPUs lead to, one after the other.
use Rattle.std.proofs.Common.{◌≡◌, ℕ, zero, suc, ◌+◌, ◌-◌, ◌<◌, ◌≤◌, List, [], ◌∷◌, ◌++◌, length, replicate, take, drop, Option, Some, None, true, is_some}
use Rattle.std.proofs.{Common.{refl, ap, sym, ◌∙◌, subst, append_assoc, arith}, Math.Seq.take-add, lemmas.List.{append-nil, replicate-append-replicate}}
use Rattle.std.{proofs.lemmas.List.{take-replicate, take-take, take_rest}, specs.Prelude.slice_index_or}
use Rattle.{event_log.specs.declared.ids.CpuId.CpuId, layer_traits.specs.declared.steps.{Reason.Reason, Step.{Step, TheVariants.{Halted, Stepped}}}}
use Rattle.{layer_traits.specs.Polling.Spins.BeginWith, cpu.specs.{Claims.{IsRunState, SystemView}, Linear.CallsGoOn, Sound.{IsReachedByTable, RanByTable}}}
use Rattle.cpu.specs.{Sound.after_steps, Systems.{Ran, SamePlan, SteppedByTable, HaltsByTable, WentOn, goes, halted_in, reason_of, took_none, stayed, took}}
use Rattle.cpu.specs.{Systems.whole_of, Table.{Setups.SystemConfig, Steps.{IsReached, SystemState, steps_once, system_step}}}
use Rattle.cpu.proofs.StepTable.{ReachedSystems.{after_more, goes_on, setup_on}, TableHalts.reasons_step}

-- the steps of these CPUs lead from s to r
pub record Leads (IsStepwise : Type 0) (s : SystemView) (schedule : List CpuId) (r : SystemView) : Type 0 where
  pub plan : SamePlan s r
  pub ran : Ran IsStepwise s schedule r
  pub table : IsStepwise → RanByTable s schedule r

-- no step leads to the system itself
pub leads_nowhere : (IsStepwise : Type 0) (s : SystemView) → Leads IsStepwise s [] s
leads_nowhere IsStepwise s = record {
  plan = record { caps = refl; homes = refl; programs = refl; count = refl; limits = refl; room = refl };
  ran = took_none;
  table = λ step setup for. refl;
}

-- a step more, taken or not
pub leads_more : (IsStepwise : Type 0) (s r t : SystemView) (schedule : List CpuId) (c : CpuId) (answer : Step) → Leads IsStepwise s schedule r → SamePlan r t
    → WentOn IsStepwise c r t → (IsStepwise → SteppedByTable c r t answer) → Leads IsStepwise s (schedule ++ c ∷ []) t
leads_more IsStepwise s r t schedule c answer leads same went by = record {
  plan = grind (arith, leads.plan, same);
  ran = goes c t leads.ran went;
  table = λ step setup for. grind (arith, goes_on, after_more);
}

-- a step more that is taken
pub leads_live : (IsStepwise : Type 0) (s r t : SystemView) (schedule : List CpuId) (c : CpuId) → Leads IsStepwise s schedule r → SamePlan r t
    → reason_of c r ≡ None
    → t.taken ≡ r.taken + 1 → CallsGoOn c r t → IsRunState t → (IsStepwise → SteppedByTable c r t Stepped) → Leads IsStepwise s (schedule ++ c ∷ []) t
leads_live IsStepwise s r t schedule c leads same live taken grows now by =
    leads_more IsStepwise s r t schedule c Stepped leads same (took live taken grows now by) by

-- a step that is not taken
pub leads_halted : (IsStepwise : Type 0) (c : CpuId) (s : SystemView) → c.0 < length s.cpus → is_some (reason_of c s) ≡ true
    → (IsStepwise → HaltsByTable c s (halted_in c s)) → Leads IsStepwise s (c ∷ []) s
leads_halted IsStepwise c s within some halts = go (reason_of c s) refl some
  where
    go : (r : Option Reason) → reason_of c s ≡ r → is_some r ≡ true → Leads IsStepwise s (c ∷ []) s
    go None is some = absurd (cc some)
    go (Some reason) is some =
        let nowhere = leads_nowhere IsStepwise s in
        leads_more IsStepwise s s s [] c (Halted reason) nowhere nowhere.plan (stayed reason is refl) (λ step. reasons_step c s within (halts step) reason is)

ran_on : (IsStepwise : Type 0) (s r t : SystemView) (first second : List CpuId) → Ran IsStepwise s first r → Ran IsStepwise r second t
    → Ran IsStepwise s (first ++ second) t
ran_on IsStepwise s r _ first _ ran took_none = subst (λ (l : List CpuId). Ran IsStepwise s l r) (sym (append-nil first)) ran
ran_on IsStepwise s r _ first _ ran (goes {steps = second} {s = u} c t more went) =
    rw (← append_assoc first second (c ∷ [])) (goes c t (ran_on IsStepwise s r u first second ran more) went)

after_both : (setup : SystemConfig) (first second : List CpuId) (s : SystemState) → after_steps setup (first ++ second) s
    ≡ after_steps setup second (after_steps setup first s)
after_both setup [] second s = refl
after_both setup (c ∷ first) second s = after_both setup first second (system_step setup c s).next

-- one schedule after the other
pub leads_on : (IsStepwise : Type 0) (s r t : SystemView) (first second : List CpuId) → Leads IsStepwise s first r → Leads IsStepwise r second t
    → Leads IsStepwise s (first ++ second) t
leads_on IsStepwise s r t first second one two = record {
  plan = grind (arith, one.plan, two.plan);
  ran = ran_on IsStepwise s r t first second one.ran two.ran;
  table = λ step setup for. grind (arith, goes_on, after_both);
}

-- the first steps of what is left of a schedule follow what was taken of it
pub taken_on : (all : List CpuId) (at more : ℕ) → take at all ++ take more (take (length all - at) (drop at all)) ≡ take (at + more) all
taken_on all at more = ap (λ (l : List CpuId). take at all ++ take more l) (take_rest all at) ∙ sym (take-add at more all)

-- more steps of one CPU after its earlier ones
pub leads_alone : (IsStepwise : Type 0) (s r t : SystemView) (c : CpuId) (m n : ℕ) → Leads IsStepwise s (replicate m c) r → Leads IsStepwise r (replicate n c) t
    → Leads IsStepwise s (replicate (m + n) c) t
leads_alone IsStepwise s r t c m n one two = rw (← replicate-append-replicate m n c) (leads_on IsStepwise s r t (replicate m c) (replicate n c) one two)

-- steps that are not taken
pub leads_resting : (IsStepwise : Type 0) (c : CpuId) (s : SystemView) (asked : ℕ) → c.0 < length s.cpus → is_some (reason_of c s) ≡ true
    → (IsStepwise → HaltsByTable c s (halted_in c s)) → Leads IsStepwise s (replicate asked c) s
leads_resting IsStepwise c s zero within some halts = leads_nowhere IsStepwise s
leads_resting IsStepwise c s (suc asked) within some halts =
    leads_on IsStepwise s s s (c ∷ []) (replicate asked c) (leads_halted IsStepwise c s within some halts)
    (leads_resting IsStepwise c s asked within some halts)

-- a step, and the following ones of the same CPU
pub turn_taken : (all : List CpuId) (d : CpuId) (more : ℕ) → 0 < length all → BeginWith (slice_index_or all 0 d) more (take (length all - 1) (drop 1 all))
    → replicate (more + 1) (slice_index_or all 0 d) ≡ take (more + 1) all
turn_taken [] d more some begins = absurd (omega (arith, some))
turn_taken (c ∷ rest) d more some begins =
    let behind : take more rest ≡ replicate more c = ap (λ (l : List CpuId). take more l) (sym (take_rest (c ∷ rest) 1)) ∙ begins.first in
    let count : suc more ≡ more + 1 = omega arith in
    grind (arith, count, behind)

-- so are the first of them
pub turn_begun : (all : List CpuId) (d : CpuId) (more taken : ℕ) → 0 < length all → BeginWith (slice_index_or all 0 d) more (take (length all - 1) (drop 1 all))
    → taken ≤ more + 1 → replicate taken (slice_index_or all 0 d) ≡ take taken all
turn_begun all d more taken some begins few =
    sym (take-replicate taken (more + 1) (slice_index_or all 0 d) few)
    ∙ ap (λ (l : List CpuId). take taken l) (turn_taken all d more some begins)
    ∙ take-take taken (more + 1) all few

-- One step.

-- what a step that is taken does
pub record TookOne (IsStepwise : Type 0) (c : CpuId) (s r : SystemView) : Type 0 where
  pub taken : r.taken ≡ s.taken + 1
  pub calls : CallsGoOn c s r
  pub step : IsStepwise → SteppedByTable c s r Stepped

ran_none : (IsStepwise : Type 0) (s r : SystemView) (l : List CpuId) → l ≡ [] → Ran IsStepwise s l r → r ≡ s
ran_none IsStepwise s _ _ none took_none = refl
ran_none IsStepwise s _ _ none (goes {steps = []} c r ran went) = absurd (cc none)
ran_none IsStepwise s _ _ none (goes {steps = d ∷ more} c r ran went) = absurd (cc none)

took_alone : (IsStepwise : Type 0) (c d : CpuId) (s u r : SystemView) → reason_of c s ≡ None → d ≡ c → u ≡ s → WentOn IsStepwise d u r
    → TookOne IsStepwise c s r
took_alone IsStepwise c d s u r live same at (took free taken calls now step) = rw (← same, ← at) (record { taken = taken; calls = calls; step = step })
took_alone IsStepwise c d s u r live same at (stayed reason is still) = absurd (cc (live, is, same, at))

pub took_one : (IsStepwise : Type 0) (c : CpuId) (s r : SystemView) (l : List CpuId) → l ≡ c ∷ [] → reason_of c s ≡ None → Ran IsStepwise s l r
    → TookOne IsStepwise c s r
took_one IsStepwise c s _ _ one live took_none = absurd (cc one)
took_one IsStepwise c s _ _ one live (goes {steps = []} {s = u} d r ran went) =
    took_alone IsStepwise c d s u r live (cc one) (ran_none IsStepwise s u [] refl ran) went
took_one IsStepwise c s _ _ one live (goes {steps = d ∷ []} e r ran went) = absurd (cc one)
took_one IsStepwise c s _ _ one live (goes {steps = d ∷ (f ∷ more)} e r ran went) = absurd (cc one)

-- What the table reaches.

reached_far : (setup : SystemConfig) (room : ℕ) (c : CpuId) (looks : ℕ) (s : SystemState) → IsReached setup room s → c.0 < setup.cpus
    → IsReached setup room (after_steps setup (replicate looks c) s)
reached_far setup room c zero s reached within = reached
reached_far setup room c (suc looks) s reached within = reached_far setup room c looks (system_step setup c s).next (steps_once c reached within) within

-- after so many steps of one CPU a system is reached as before them
pub reached_alone : (IsStepwise : Type 0) (c : CpuId) (looks : ℕ) (s r : SystemView) → c.0 < length s.cpus → Leads IsStepwise s (replicate looks c) r
    → IsStepwise
    → IsReachedByTable s → IsReachedByTable r
reached_alone IsStepwise c looks s r within leads step reached setup is =
    let before = setup_on setup (grind (arith, leads.plan)) is in
    subst (λ (n : ℕ). IsReached setup n (whole_of r)) (sym leads.plan.room)
    (subst (λ (w : SystemState). IsReached setup s.room w) (sym (leads.table step setup before.goes))
    (reached_far setup s.room c looks (whole_of s) (reached setup before) (omega (arith, before.count, within))))
