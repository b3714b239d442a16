-- The plan of a begun call is a row of the table if its caller neither slept nor waited; if it did,
-- the poll continues with the next section.
use Rattle.std.proofs.Common.{◌≡◌, ◌≢◌, ℕ, ◌<◌, false, ◌&&◌, List, get_or, slice_set, Option, Some, None, is_some, refl, ap, sym, ◌∙◌, subst, arith}
use Rattle.std.proofs.lemmas.{Bool.ne_eqb, List.{get_or-set_same, get_or-set_other, length-set, set-get_or}}
use Rattle.{thread_blocks.{proofs.Members.same_tid_self, specs.Queues.is_in}, event_log.specs.declared.{entries.Entry.Entry, ids.{BufId.BufId, CpuId.CpuId}}}
use Rattle.{event_log.specs.declared.ids.Tid.Tid, guest.specs.State.{State, at_start}, layer_traits.specs.declared.calls.Call.Call as TowerCall}
use Rattle.layer_traits.specs.declared.{calls.Effect.Effect, call_states.{CallState.CallState, Stage.{Stage, TheVariants.{Acquires, Enters, Tries, Waits}}}}
use Rattle.layer_traits.specs.{declared.call_states.Stage.TheVariants.AcquiresAgain, Layers.BufferLaw.{Buffering, fifo_plan, going, plan_at, no_call}}
use Rattle.{layer_traits.specs.Layers.{BufferLaw.call_state_of, QLockLaw.slept_for}, cpu.specs.{Table.Setups.SystemConfig, Tower.Views.TowerReply}}
use Rattle.cpu.specs.Tower.{Composed.{IsLine, IsLined, CallStands, FitsStage, enters, tries, asks_anew}, Privates.{state_at, cpu_local_after, cpu_local_of}}
use Rattle.cpu.{specs.Tower.Privates.{thread_from, tid}, proofs.Tower.{Callers.{Caller, Runner, Site, at_next, awake, call_state_at}, ChangedThread.changed}}
use Rattle.cpu.proofs.Tower.{ChangedThread.{runner_goes, own_at, part_at, parts, threads_at}, SectionLines.{HasHad, after, local, call_state, threads, plan}}
use Rattle.cpu.proofs.Tower.SectionLines.{section_line, stands_as}

-- the plan of a poll of this call is a line of the table
abbrev pub LineOf : SystemConfig → CpuId → Tid → TowerCall → Buffering → List State → List Entry → Type 0
LineOf setup c t call local guests trace =
    IsLine setup c (cpu_local_of local guests trace) (fifo_plan setup.homes c t call local) (cpu_local_after setup c t call local guests trace)

-- a list in which an element is written over itself
pub put_same : {X : Type 0} (xs : List X) (n : ℕ) (x d : X) → get_or xs n d ≡ x → xs ≡ slice_set xs n x
put_same xs n x d is = sym (set-get_or xs n d) ∙ ap (slice_set xs n) is

-- the part's private state, with its current thread in the place of its number
module _ (runner : Runner) (hand : Option Tid) (deferred : Option TowerReply) (trace : List Entry) where
  open runner use {t, ready, ended, slept, waits, call_states, guests}

  pub cpu_local_here : (call_state : CallState) (s w : Option BufId) → call_state_of call_states t ≡ call_state → slept_for slept t ≡ s → slept_for waits t ≡ w
      → cpu_local_of (part_at runner hand deferred) guests trace
      ≡ parts (Some t) ready hand (slice_set (threads_at (part_at runner hand deferred) guests) t.0
      (thread_from call_state s w (is_some deferred) (is_in t ended) (state_at guests t))) trace
  cpu_local_here call_state s w is is_s is_w =
      (λ i. cpu_local_of (own_at (Some t) hand ready ended deferred slept waits (put_same call_states t.0 call_state no_call is i))
      (put_same guests t.0 (state_at guests t) at_start refl i) trace)
      ∙ runner_goes runner hand deferred hand ready deferred call_state (state_at guests t) trace s w is_s is_w

-- the plan of a poll, given this call state
pub fifo_at : (setup : SystemConfig) (c : CpuId) (t : Tid) (call : TowerCall) (local : Buffering) (call_state : CallState)
    → call_state_of local.call_states t ≡ call_state
    → fifo_plan setup.homes c t call local ≡ plan_at setup.homes c t call (going call_state call).stage (going call_state call) local
fifo_at setup c t call local call_state is = ap (λ x. plan_at setup.homes c t call (going x call).stage (going x call) local) is

pub had_at : {hand : Option Tid} {deferred : Option TowerReply} {s w : Option BufId} (call_site : Site) (stage : Stage) (effect : Option Effect)
    → CallStands stage hand deferred s w effect → call_state_of call_site.call_states call_site.t ≡ call_state_at call_site.caller stage effect
    → HasHad call_site effect
had_at call_site stage effect given is = grind arith

-- the plan of a poll of it is that of its stage
pub begun_plan : {stage : Stage} {hand : Option Tid} {deferred : Option TowerReply} {s w : Option BufId} {position : ℕ} {effect : Option Effect}
    (setup : SystemConfig)
    (c : CpuId) (t : Tid) (call : TowerCall) (local : Buffering) → CallStands stage hand deferred s w effect
    → call_state_of local.call_states t ≡ record { stage = stage; call = Some call; position = position; effect = effect }
    → fifo_plan setup.homes c t call local
    ≡ plan_at setup.homes c t call stage (record { stage = stage; call = Some call; position = position; effect = effect }) local
begun_plan {stage} {position = position} {effect = effect} setup c t call local given is =
    let state : CallState = record { stage = stage; call = Some call; position = position; effect = effect } in
    fifo_at setup c t call local state is ∙ ap (λ x. plan_at setup.homes c t call x.stage x local) (grind arith)

-- the plan of a begun call whose caller neither slept nor waited is a line of the table
pub site_line : (call_site : Site) (stage : Stage) (effect : Option Effect) → CallStands stage None None None None effect
    → FitsStage stage (Some call_site.call)
    → call_state_of call_site.call_states call_site.t ≡ call_state_at call_site.caller stage effect
    → LineOf call_site.setup call_site.c call_site.t call_site.call (part_at call_site.runner None None) call_site.guests call_site.trace
site_line call_site stage effect given coupled is =
    let had = had_at call_site stage effect given is in
    let here =
    cpu_local_here call_site.runner None None call_site.trace (call_state_at call_site.caller stage effect) None None is call_site.is_slept
    call_site.is_waits
    ∙ ap (λ x. parts (Some call_site.t) call_site.ready None (slice_set (threads call_site effect had) call_site.t.0 x) call_site.trace)
    (stands_as call_site effect had stage given) in
    let way = begun_plan call_site.setup call_site.c call_site.t call_site.call (part_at call_site.runner None None) given is in
    subst (λ x. x) (λ i. IsLine call_site.setup call_site.c (sym here i) (sym way i) (after call_site effect had))
    (section_line call_site effect had stage given coupled)

-- Chains: the thread slept for the lock and was handed it, or waited and was woken.

module _ (caller : Caller) where
  open caller use {runner, setup, c, t, ready, ended, slept, waits, call_states, guests, trace, call, in_guests, in_call_states, in_slept, in_waits}

  abbrev was : Buffering
  was = part_at runner None None

  abbrev so : Stage → CallState
  so stage = call_state_at caller stage None

  abbrev then_own : List (Option BufId) → List (Option BufId) → Stage → Buffering
  then_own slept2 waits2 stage = own_at (Some t) None ready ended None slept2 waits2 (slice_set call_states t.0 (so stage))

  pub now_call_state : (stage : Stage) → call_state_of (slice_set call_states t.0 (so stage)) t ≡ so stage
  now_call_state stage = get_or-set_same call_states t.0 (so stage) no_call in_call_states

  -- the private state is the same
  same_cpu_local : (stage next : Stage) (slept2 waits2 : List (Option BufId)) (s w : Option BufId) → call_state_of call_states t ≡ so stage
      → slept_for slept t ≡ s → slept_for waits t ≡ w → ((j : ℕ) → j ≢ t.0 → slept_for slept2 (tid j) ≡ slept_for slept (tid j))
      → ((j : ℕ) → j ≢ t.0 → slept_for waits2 (tid j) ≡ slept_for waits (tid j)) → slept_for slept2 t ≡ None → slept_for waits2 t ≡ None
      → thread_from (so next) None None false (is_in t ended) (state_at guests t) ≡ thread_from (so stage) s w false (is_in t ended) (state_at guests t)
      → cpu_local_of (then_own slept2 waits2 next) guests trace ≡ cpu_local_of was guests trace
  same_cpu_local stage next slept2 waits2 s w is is_s is_w slept_same waits_same s2 w2 same =
      (λ i. cpu_local_of (then_own slept2 waits2 next) (put_same guests t.0 (state_at guests t) at_start refl i) trace)
      ∙ (changed runner None None (Some t) None ready None slept2 waits2 (so next) (state_at guests t) trace None None false
      (λ j other. ap (λ b. b && false) (ne_eqb t.0 j (λ e. other (sym e)))) slept_same waits_same s2 w2 (ap (λ b. b && false) (same_tid_self t))
      ∙ (ap (λ x. parts (Some t) ready None (slice_set (threads_at was guests) t.0 x) trace) same
      ∙ sym (cpu_local_here runner None None trace (so stage) s w is is_s is_w)))

  -- a row of the state at which the poll continued is one of the state from which it started
  chained_line : (stage next : Stage) (own2 : Buffering) → call_state_of call_states t ≡ so stage → call_state_of own2.call_states t ≡ so next
      → (going (so stage) call).effect ≡ None → (going (so next) call).effect ≡ None
      → cpu_local_of own2 guests trace ≡ cpu_local_of was guests trace → fifo_plan setup.homes c t call was ≡ fifo_plan setup.homes c t call own2
      → LineOf setup c t call own2 guests trace → LineOf setup c t call was guests trace
  chained_line stage next own2 is is2 none none2 cpu_local plan line = grind arith

  -- the thread was handed the lock, or was woken, and is at the next stage
  abbrev pub handed_own : Stage → Buffering
  handed_own next = then_own (slice_set slept t.0 None) waits next

  abbrev pub woken_own : Stage → Buffering
  woken_own next = then_own slept (slice_set waits t.0 None) next

  abbrev pub handed_site : (next : Stage) → slept_for waits t ≡ None → Site
  handed_site next w =
      awake (at_next caller (slice_set slept t.0 None) waits next (subst (λ n. t.0 < n) (sym (length-set slept t.0 None)) in_slept) in_waits)
      (get_or-set_same slept t.0 None None in_slept) w

  abbrev pub woken_site : (next : Stage) → slept_for slept t ≡ None → Site
  woken_site next s =
      awake (at_next caller slept (slice_set waits t.0 None) next in_slept (subst (λ n. t.0 < n) (sym (length-set waits t.0 None)) in_waits)) s
      (get_or-set_same waits t.0 None None in_waits)

  -- the plan of a thread that was handed the lock is that of its next section
  pub handed_plan : (b : BufId) → call_state_of call_states t ≡ so Acquires → slept_for slept t ≡ Some b → slept_for waits t ≡ None
      → fifo_plan setup.homes c t call was ≡ fifo_plan setup.homes c t call (handed_own Enters)
  handed_plan b is s w = grind (arith, fifo_at, now_call_state)

  pub handed_again_plan : (b : BufId) → call_state_of call_states t ≡ so AcquiresAgain → slept_for slept t ≡ Some b → slept_for waits t ≡ None
      → fifo_plan setup.homes c t call was ≡ fifo_plan setup.homes c t call (handed_own Tries)
  handed_again_plan b is s w = grind (arith, fifo_at, now_call_state)

  -- the plan of a thread that was woken acquires the lock again
  pub woken_plan : (b : BufId) → call_state_of call_states t ≡ so Waits → slept_for slept t ≡ None → slept_for waits t ≡ Some b
      → fifo_plan setup.homes c t call was ≡ fifo_plan setup.homes c t call (woken_own AcquiresAgain)
  woken_plan b is s w = grind (arith, fifo_at, now_call_state)

  handed_to : (stage next : Stage) (b : BufId) → CallStands next None None None None None → FitsStage next (Some call) → call_state_of call_states t ≡ so stage
      → slept_for slept t ≡ Some b → slept_for waits t ≡ None → (going (so stage) call).effect ≡ None → (going (so next) call).effect ≡ None
      → thread_from (so next) None None false (is_in t ended) (state_at guests t) ≡ thread_from (so stage) (Some b) None false (is_in t ended)
      (state_at guests t) → fifo_plan setup.homes c t call was ≡ fifo_plan setup.homes c t call (handed_own next) → LineOf setup c t call was guests trace
  handed_to stage next b given coupled is s w none none2 same goes =
      chained_line stage next (handed_own next) is (now_call_state next) none none2
      (same_cpu_local stage next (slice_set slept t.0 None) waits (Some b) None is s
      w (λ j other. get_or-set_other slept t.0 j None None other) (λ j other. refl) (get_or-set_same slept t.0 None None in_slept) w same) goes
      (site_line (handed_site next w) next None given coupled (now_call_state next))

  pub handed_line : (b : BufId) → call_state_of call_states t ≡ so Acquires → slept_for slept t ≡ Some b → slept_for waits t ≡ None
      → LineOf setup c t call was guests trace
  handed_line b is s w = handed_to Acquires Enters b enters tt is s w refl refl refl (handed_plan b is s w)

  pub handed_again_line : (b : BufId) → IsLined call → call_state_of call_states t ≡ so AcquiresAgain → slept_for slept t ≡ Some b → slept_for waits t ≡ None
      → LineOf setup c t call was guests trace
  handed_again_line b lined is s w = handed_to AcquiresAgain Tries b tries lined is s w refl refl refl (handed_again_plan b is s w)

  pub woken_line : (b : BufId) → IsLined call → call_state_of call_states t ≡ so Waits → slept_for slept t ≡ None → slept_for waits t ≡ Some b
      → LineOf setup c t call was guests trace
  woken_line b lined is s w =
      chained_line Waits AcquiresAgain (woken_own AcquiresAgain) is (now_call_state AcquiresAgain) refl refl
      (same_cpu_local Waits AcquiresAgain slept (slice_set waits t.0 None) None (Some b) is s w
      (λ j other. refl) (λ j other. get_or-set_other waits t.0 j None None other) s (get_or-set_same waits t.0 None None in_waits) refl)
      (woken_plan b is s w) (site_line (woken_site AcquiresAgain s) AcquiresAgain None asks_anew lined (now_call_state AcquiresAgain))
