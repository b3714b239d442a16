-- Every state that a system reaches is sound: each section of its log may occur after those before
-- it, and each CPU agrees with the log.
use Rattle.std.proofs.Common.{◌≡◌, ℕ, zero, suc, ◌+◌, ◌<◌, Bool, true, false, ◌&&◌, List, [], ◌∷◌, ◌++◌, length, slice_get, slice_set, Option, Some, None}
use Rattle.std.proofs.{Common.{option_map, nat_lt, if◌then◌else◌, refl, sym, ap, ◌∙◌, subst, arith}, lemmas.Bool.{and_right, eq-eqb, ne_eqb, eqb-true}}
use Rattle.std.proofs.{lemmas.{Bool.{eqb-false, lt-ltb, le-ltb, ltb-true, ltb-false}, List.length-map}, Math.Bool.and-true}
use Rattle.event_log.specs.{declared.ids.{CpuId.CpuId, Tid.Tid, LockId.LockId}, History.{same_cpu, IsLawful}, Sections.sections_in, Actions.{Action, Take, Try}}
use Rattle.event_log.{specs.Actions.{Give, Phase, Rests, Waits, Holds, phase, cpu_of_action, action_in}, proofs.Same.same_cpu_true}
use Rattle.{event_log.proofs.{Exclusion.{phase_own, phase_other}, ListLemmas.set_else}, layer_traits.specs.declared.steps.Step.TheVariants.Stepped}
use Rattle.layer_traits.specs.{Threads.{Places.{one_if, count_in}, Passes.or_else}, Polling.{Plans.{is_in_section, at_give}, Along.Outcome}}
use Rattle.cpu.specs.Table.{Blocks.Name, Edits.answer, Setups.{SystemConfig, CpuLocal, home_threads_from, boot_of}, Choice.{asked, choice}}
use Rattle.cpu.specs.Table.Steps.{after_reply, step_in, cpu_step, SystemState, cpu_numbered, boots_from, whole_at_boot, whole_after, step_at}
use Rattle.cpu.specs.{Table.Steps.{system_step, IsReached, boots, steps_once, acting}, Wakeups.{Order.block_of, Lost.{SystemsKeepOrder, SystemsLoseNoWakeUp}}}
use Rattle.cpu.{specs.Wakeups.Lost.FreeLocksHaveNoSleepers, proofs.Wakeups.{Lists.refuted, Ordered.{buffer_awake, order_loses_no_wake_up}, PostsAndVisits.post}}
use Rattle.cpu.proofs.Wakeups.{PostsAndVisits.{visit, MayComeAt}, BuffersAndThreads.{Good, good_none, good_step}, Agreement.{Agrees, IsSettled}}
use Rattle.cpu.proofs.Wakeups.{CpuStep.{foreign_step, give_ok}, ChosenSteps.{choice_ok, OfChoice}}
pub use Rattle.cpu.proofs.Wakeups.EndedThreads.{all_new}

-- Logs of actions.

-- an action that ends a section ends one that may occur
abbrev pub IsFair : SystemConfig → List (Action Name) → Action Name → Type 0
IsFair setup past (Give cpu lock name) = MayComeAt setup (sections_in past) cpu lock name
IsFair setup past other = Unit {0}

abbrev pub IsFairLog : SystemConfig → List (Action Name) → Type 0
IsFairLog setup log = IsLawful (IsFair setup) log

pub fair_good : (setup : SystemConfig) (log : List (Action Name)) → IsFairLog setup log → Good setup (sections_in log)
fair_good setup [] fair = good_none setup
fair_good setup (Take cpu lock ∷ past) fair = fair_good setup past fair.1
fair_good setup (Try cpu lock hit ∷ past) fair = fair_good setup past fair.1
fair_good setup (Give cpu lock name ∷ past) fair =
    good_step setup (sections_in past) (record { cpu = cpu; lock = lock; edit = name }) (fair_good setup past fair.1) fair.0

-- the lock at which a CPU in this phase is
abbrev pub lock_in : Phase → Option LockId
lock_in Rests = None
lock_in (Waits lock) = Some lock
lock_in (Holds lock) = Some lock

-- a CPU agrees with the log, and is at the lock of the section that it requests
pub record Ok (setup : SystemConfig) (c : CpuId) (p : CpuLocal) (log : List (Action Name)) : Type 0 where
  pub agrees : Agrees setup c p (λ u. visit setup u (sections_in log)) (λ u. post setup u (sections_in log))
  pub settled : IsSettled setup c p
  pub under : (lock : LockId) → lock_in (phase c log) ≡ Some lock → lock ≡ (asked setup c p).lock

-- One step.

-- each of these actions is the CPU's
abbrev pub AllDo : CpuId → List (Action Name) → Type 0
AllDo c [] = Unit {0}
AllDo c (a ∷ acts) = (cpu_of_action a ≡ c) × AllDo c acts

pub record StepOk (setup : SystemConfig) (c : CpuId) (log : List (Action Name)) (o : Outcome CpuLocal Name) : Type 0 where
  pub fair : IsFairLog setup (o.acts ++ log)
  pub ok : Ok setup c o.next (o.acts ++ log)
  pub does : AllDo c o.acts

module _ (setup : SystemConfig) (c : CpuId) (log : List (Action Name)) (fair : IsFairLog setup log) where
  -- the action that is due to a CPU in this phase, and what it leaves
  abbrev acted : CpuLocal → Phase → Outcome CpuLocal Name
  acted q now = record {
    next = after_reply setup c q (at_give now (option_map (answer (asked setup c q).name) (block_of setup (asked setup c q).lock (sections_in log))));
    acts = action_in c (asked setup c q).lock (asked setup c q).name log now ∷ [];
    answer = Stepped;
  }

  acted_ok : (q : CpuLocal) → Ok setup c q log → (now : Phase) → phase c log ≡ now → StepOk setup c log (acted q now)
  acted_ok q ok Rests is = grind (arith, phase_own)
  acted_ok q ok (Waits there) is = grind (arith, phase_own)
  acted_ok q ok (Holds there) is =
      let given = give_ok setup (sections_in log) (fair_good setup log fair) c q ok.agrees ok.settled in
      let P : LockId → Type 0 = λ x. StepOk setup c log (record {
        next = after_reply setup c q (option_map (answer (asked setup c q).name) (block_of setup (asked setup c q).lock (sections_in log)));
        acts = Give c x (asked setup c q).name ∷ [];
        answer = Stepped;
      }) in
      subst P (sym (ok.under there (ap lock_in is))) (record {
        fair = (given.may, fair);
        ok = grind (arith, phase_own);
        does = (refl, tt);
      })

  pub step_ok : (p : CpuLocal) → Ok setup c p log → StepOk setup c log (cpu_step setup c p log)
  step_ok p ok = by_section (is_in_section (phase c log)) refl
    where
      by_section : (inside : Bool) → is_in_section (phase c log) ≡ inside → StepOk setup c log (step_in setup c p log inside)
      by_section true is = acted_ok p ok (phase c log) refl
      by_section false is = grind (arith, choice_ok setup c p _ _ ok.agrees ok.settled, acted_ok)

-- what a CPU's choice keeps, and its actions keep if its state agrees, its step keeps
pub step_keeps : (setup : SystemConfig) (c : CpuId) (p : CpuLocal) (log : List (Action Name)) (Q : CpuLocal → Type 0) → Ok setup c p log → Q p
    → OfChoice Q (choice setup c p) → ((q : CpuLocal) → Agrees setup c q (λ u. visit setup u (sections_in log)) (λ u. post setup u (sections_in log))
    → Q q → Q (acting setup c q log).next) → Q (cpu_step setup c p log).next
step_keeps setup c p log Q ok now chosen acts = grind (arith, choice_ok)

-- an action of another CPU
pub ok_beside : (setup : SystemConfig) (e : CpuId) (p : CpuLocal) (log : List (Action Name)) (a : Action Name) → same_cpu (cpu_of_action a) e ≡ false
    → IsFairLog setup log → IsFair setup log a → Ok setup e p log → Ok setup e p (a ∷ log)
ok_beside setup e p log (Give cpu lock name) off fair may ok = record {
  agrees = foreign_step setup (sections_in log) (fair_good setup log fair) e p (record { cpu = cpu; lock = lock; edit = name }) off may ok.agrees;
  settled = ok.settled;
  under = λ at is. ok.under at (sym (ap lock_in (phase_other (Give cpu lock name) log e off)) ∙ is);
}
ok_beside setup e p log a off fair may ok = grind (arith, phase_other)

pub all_beside : (setup : SystemConfig) (c e : CpuId) (p : CpuLocal) (log acts : List (Action Name)) → same_cpu c e ≡ false → AllDo c acts
    → IsFairLog setup (acts ++ log) → Ok setup e p log → Ok setup e p (acts ++ log)
all_beside setup c e p log [] off does fair ok = ok
all_beside setup c e p log (a ∷ acts) off does fair ok =
    ok_beside setup e p (acts ++ log) a (ap (λ d. same_cpu d e) does.0 ∙ off) fair.1 fair.0 (all_beside setup c e p log acts off does.1 fair.1 ok)

-- A CPU at boot.

-- the threads from number i upwards whose home CPU is c, by count: u is one of them if it is at its
-- place among the homes
homed_before : (c : CpuId) (homes : List CpuId) (i : ℕ) (u : Tid) → u.0 < i → count_in u (home_threads_from c homes i) ≡ 0
homed_before c [] i u before = refl
homed_before c (home ∷ homes) i u before = by_test (same_cpu home c) (homed_before c homes (i + 1) u (omega (arith, before)))
  where
    by_test : (here : Bool) → count_in u (home_threads_from c homes (i + 1)) ≡ 0
        → count_in u (if here then record { 0 = i } ∷ home_threads_from c homes (i + 1) else home_threads_from c homes (i + 1)) ≡ 0
    by_test here none = grind (arith, ne_eqb)

homed_at : (c : CpuId) (homes : List CpuId) (i k : ℕ) (u : Tid) → u.0 ≡ i + k
    → count_in u (home_threads_from c homes i) ≡ one_if (same_cpu (or_else (record { 0 = 0 }) (slice_get homes k)) c && nat_lt k (length homes))
homed_at c [] i k u at = sym (ap one_if (and_right (same_cpu (record { 0 = 0 }) c) (nat_lt k 0) (le-ltb k 0 (omega arith))))
homed_at c (home ∷ homes) i zero u at = grind (arith, homed_before, eq-eqb, lt-ltb)
homed_at c (home ∷ homes) i (suc k) u at = by_test (same_cpu home c) (homed_at c homes (i + 1) k u (omega (arith, at)))
  where
    by_test : (here : Bool)
        → count_in u (home_threads_from c homes (i + 1)) ≡ one_if (same_cpu (or_else (record { 0 = 0 }) (slice_get homes k)) c && nat_lt k (length homes))
        → count_in u (if here then record { 0 = i } ∷ home_threads_from c homes (i + 1) else home_threads_from c homes (i + 1))
        ≡ one_if (same_cpu (or_else (record { 0 = 0 }) (slice_get homes k)) c && nat_lt (suc k) (length (home ∷ homes)))
    by_test here more = grind (arith, ne_eqb, ltb-true, lt-ltb, ltb-false, le-ltb)

pub ok_at_boot : (setup : SystemConfig) (c : CpuId) → Ok setup c (boot_of setup c) []
ok_at_boot setup c = grind (arith, length-map, all_new, homed_at, and-true, refuted)

-- Systems.

pub record Sound (setup : SystemConfig) (s : SystemState) : Type 0 where
  pub fair : IsFairLog setup s.log
  pub cpus : (e : CpuId) (p : CpuLocal) → slice_get s.cpus e.0 ≡ Some p → Ok setup e p s.log

pub same_cpu_local : (p q : CpuLocal) → Some p ≡ Some q → p ≡ q
same_cpu_local p q is = cc

-- the elements of a list after one of its items was set
pub get_set : (xs : List CpuLocal) (i j : ℕ) (x y : CpuLocal) → slice_get (slice_set xs i x) j ≡ Some y → i ≡ j → x ≡ y
get_set (z ∷ xs) zero zero x y is same = same_cpu_local x y is
get_set (z ∷ xs) (suc i) (suc j) x y is same = get_set xs i j x y is (omega (arith, same))
get_set xs i j x y is same = grind (arith, same)

-- what holds of the CPU whose state was set, and of each other, holds of all
pub all_set : (P : CpuId → CpuLocal → Type 0) (cpus : List CpuLocal) (c : CpuId) (x : CpuLocal) → P c x
    → ((e : CpuId) (p : CpuLocal) → same_cpu c e ≡ false → slice_get cpus e.0 ≡ Some p → P e p)
    → (e : CpuId) (p : CpuLocal) → slice_get (slice_set cpus c.0 x) e.0 ≡ Some p → P e p
all_set P cpus c x local others e p is = grind (arith, same_cpu_true, get_set, eqb-true, set_else, eqb-false)

pub boots_at : (setup : SystemConfig) (n k i : ℕ) (p : CpuLocal) → slice_get (boots_from setup n k) i ≡ Some p → boot_of setup (cpu_numbered (n + i)) ≡ p
boots_at setup n (suc k) (suc i) p is =
    let same : n + suc i ≡ (n + 1) + i = omega arith in ap (λ m. boot_of setup (cpu_numbered m)) same ∙ boots_at setup (n + 1) k i p is
boots_at setup n k i p is = grind (arith, same_cpu_local)

sound_at_boot : (setup : SystemConfig) (room : ℕ) → Sound setup (whole_at_boot setup room)
sound_at_boot setup room = record {
  fair = tt;
  cpus = λ e p is.
      let zero_plus : 0 + e.0 ≡ e.0 = omega arith in
      let at : boot_of setup e ≡ p = ap (λ m. boot_of setup (cpu_numbered m)) (sym zero_plus) ∙ boots_at setup 0 setup.cpus e.0 p is in
      subst (λ q. Ok setup e q []) at (ok_at_boot setup e);
}

module _ (setup : SystemConfig) (s : SystemState) (sound : Sound setup s) (c : CpuId) where
  sound_after : (p : CpuLocal) → slice_get s.cpus c.0 ≡ Some p → Sound setup (whole_after c s (cpu_step setup c p s.log))
  sound_after p here =
      let step = step_ok setup c s.log sound.fair p (sound.cpus c p here) in
      record {
        fair = step.fair;
        cpus = all_set (λ e q. Ok setup e q ((cpu_step setup c p s.log).acts ++ s.log)) s.cpus c (cpu_step setup c p s.log).next step.ok
            (λ e q off at. all_beside setup c e q s.log (cpu_step setup c p s.log).acts off step.does step.fair (sound.cpus e q at));
      }

  sound_at : (o : Option CpuLocal) → slice_get s.cpus c.0 ≡ o → Sound setup (step_at setup c s o).next
  sound_at o here = grind (arith, sound_after)

pub sound_step : (setup : SystemConfig) (s : SystemState) → Sound setup s → (c : CpuId) → Sound setup (system_step setup c s).next
sound_step setup s sound c = sound_at setup s sound c (slice_get s.cpus c.0) refl

pub reached_sound : (setup : SystemConfig) (room : ℕ) (s : SystemState) → IsReached setup room s → Sound setup s
reached_sound setup room s boots = sound_at_boot setup room
reached_sound setup room s (steps_once {s = before} c reached within) = sound_step setup before (reached_sound setup room before reached) c

pub systems_keep_order : SystemsKeepOrder
systems_keep_order setup room s reached = (fair_good setup s.log (reached_sound setup room s reached).fair).ordered

pub systems_lose_no_wake_up : SystemsLoseNoWakeUp
systems_lose_no_wake_up setup room s reached b k is = order_loses_no_wake_up setup (sections_in s.log) (systems_keep_order setup room s reached) b k is

pub free_locks_have_no_sleepers : FreeLocksHaveNoSleepers
free_locks_have_no_sleepers setup room s reached b k is free =
    ((buffer_awake setup (sections_in s.log) (systems_keep_order setup room s reached) b k is).idle free).1
