-- A system before its first step is the step table's at boot, and the setup that its plan
-- determines is its own.
use Rattle.std.proofs.Common.{◌≡◌, ℕ, zero, suc, ◌+◌, false, List, [], ◌∷◌, length, map, replicate, Option, Some, None, refl, ap, sym, ◌∙◌, subst, arith}
use Rattle.std.{proofs.lemmas.{List.length-map, Option.{get_or_from_slice_get, slice_get_within}}, specs.Prelude.{IfOk, Result, slice_get, slice_index_or}}
use Rattle.std.specs.Prelude.{if◌then◌else◌}
use Rattle.{event_log.{specs.declared.ids.{CpuId.CpuId, TheConstants.THREADS}, proofs.ListLemmas.alike_at}, guest.specs.State.{State, at_start}}
use Rattle.layer_traits.{specs.{Layers.BufferLaw.{buffering_at_start, no_call}, Threads.{OnePlace.cpu_at, Places.homed}}, proofs.CountLemmas.same_cpu_sym}
use Rattle.{boot.specs.Plan.{IsPlan, BootPlan, Task}, cpu.specs.{declared.guests.Guest.Guest, Guests.new_guest, Boots.{AreGuests, guests_for, homes_for}}}
use Rattle.cpu.specs.{Boots.tables_for, Claims.{CpuView, SystemView}, Cpus.guest_at, Sound.{BootsByTable, IsReachedByTable, IsSetupFor, setup_for}}
use Rattle.cpu.specs.Table.{Setups.{CpuLocal, SystemConfig, home_threads_from, new_thread, program_or, boot_of}, Steps.{IsReached, SystemState, boots}}
use Rattle.cpu.specs.{Table.Steps.{boots_from, cpu_numbered}, Tables.{cpu_local, guest_state_of, guest_states}, Tower.Privates.{threads_numbered, thread_from}}
use Rattle.cpu.{specs.Tower.Privates.{thread_of, tid}, proofs.ListFacts.ListReads.{listed_length, listed_there, shown_at, shows_at}}
use Rattle.cpu.proofs.{WholeSystems.PlanGuests.by_task, Tower.KeptByPasses.no_buffer}

-- One CPU.

-- the home threads of a CPU, by rising number
homed_is : (c : CpuId) (n : ℕ) (homes : List CpuId) → homed c n homes ≡ home_threads_from c homes n
homed_is c n [] = refl
homed_is c n (home ∷ homes) = (λ i. if same_cpu_sym c home i then record { 0 = n } ∷ homed_is c (n + 1) homes i else homed_is c (n + 1) homes i)

-- a thread at boot
thread_new : (homes : List CpuId) (c : CpuId) (n : ℕ) (guest : State) → guest ≡ at_start → thread_of (buffering_at_start homes c) (tid n) guest ≡ new_thread
thread_new homes c n guest is =
    λ i. thread_from (alike_at THREADS n no_call i) (alike_at THREADS n no_buffer i) (alike_at THREADS n no_buffer i) false false (is i)

threads_new : (local : List CpuId) (c : CpuId) (n : ℕ) (guests : List State) (homes : List CpuId) → length guests ≡ length homes
    → ((k : ℕ) → slice_index_or guests k at_start ≡ at_start)
    → threads_numbered (λ k. thread_of (buffering_at_start local c) (tid k)) n guests ≡ map (λ home. new_thread) homes
threads_new local c n [] [] count new = refl
threads_new local c n (guest ∷ guests) (home ∷ homes) count new =
    let more = threads_new local c (n + 1) guests homes (omega (arith, count)) (λ k. new (suc k)) in
    λ i. (thread_new local c n guest (new 0)) i ∷ more i
threads_new local c n guests homes count new = absurd (omega (arith, count))

states_new : (guests : List (Option Guest)) → ((k : ℕ) (g : Guest) → guest_at guests k ≡ Some g → g ≡ new_guest g.program) → (k : ℕ)
    → slice_index_or (guest_states guests) k at_start ≡ at_start
states_new (Some g ∷ guests) new zero = ap (λ (x : Guest). x.thread) (new 0 g refl)
states_new (guest ∷ guests) new (suc k) = states_new guests (λ j g at. new (suc j) g at) k
states_new guests new k = refl

-- a CPU at boot is the table's
pub cpu_local_boots : (setup : SystemConfig) (homes : List CpuId) (buffers : ℕ) (c : CpuId) (guests : List (Option Guest)) → setup.homes ≡ homes
    → AreGuests homes buffers c guests → cpu_local (buffering_at_start homes c) guests [] ≡ boot_of setup c
cpu_local_boots setup homes buffers c guests same are =
    let ready = homed_is c 0 homes ∙ ap (λ (h : List CpuId). home_threads_from c h 0) (sym same) in
    let count : length (guest_states guests) ≡ length homes = length-map guests guest_state_of ∙ are.size in
    let threads = threads_new homes c 0 (guest_states guests) homes count (states_new guests (λ k g at. are.fresh (tid k) g at))
    ∙ ap (λ (h : List CpuId). map (λ home. new_thread) h) (sym same) in
    λ i. record { current = None; ready = ready i; hand = None; threads = threads i; trace = [] }

-- All CPUs.

boots_each : (setup : SystemConfig) (n : ℕ) (ps : List CpuLocal) → ((k : ℕ) (p : CpuLocal) → slice_get ps k ≡ Some p → p ≡ boot_of setup (cpu_numbered (n + k)))
    → ps ≡ boots_from setup n (length ps)
boots_each setup n [] each = refl
boots_each setup n (p ∷ ps) each =
    let same : n + 0 ≡ n = omega arith in
    let first : p ≡ boot_of setup (cpu_numbered n) = each 0 p refl ∙ ap (λ (k : ℕ). boot_of setup (cpu_numbered k)) same in
    let more = boots_each setup (n + 1) ps (λ k q at.
    let next : n + suc k ≡ (n + 1) + k = omega arith in each (suc k) q at ∙ ap (λ (j : ℕ). boot_of setup (cpu_numbered j)) next) in
    λ i. first i ∷ more i

-- a CPU has these guests, and its part of the layer and its trace are as at boot
pub record IsNew (homes : List CpuId) (k : ℕ) (p : CpuView) : Type 0 where
  pub buffers : ℕ
  pub guests : AreGuests homes buffers (cpu_at k) p.guests
  pub cpu_local_is : p.cpu_local ≡ cpu_local (buffering_at_start homes (cpu_at k)) p.guests []

-- a system of such CPUs is the table's at boot
pub starts_by_table : (s : SystemView) → s.log ≡ [] → s.taken ≡ 0 → ((k : ℕ) (p : CpuView) → slice_get s.cpus k ≡ Some p → IsNew s.homes k p) → BootsByTable s
starts_by_table s nothing none new setup is =
    let count : length (map (λ p. p.cpu_local) s.cpus) ≡ setup.cpus = length-map s.cpus (λ p. p.cpu_local) ∙ sym is.count in
    let cpus =
    boots_each setup 0 (map (λ p. p.cpu_local) s.cpus) (shown_at (λ (p : CpuView). p.cpu_local) (λ k q. q ≡ boot_of setup (cpu_numbered (0 + k))) s.cpus
    (λ k p at.
    let one = new k p at in
    let same : k ≡ 0 + k = omega arith in
    one.cpu_local_is ∙ cpu_local_boots setup s.homes one.buffers (cpu_at k) p.guests (is.goes.each k p at).homes_are one.guests
    ∙ ap (λ (j : ℕ). boot_of setup (cpu_numbered j)) same)) in
    let all = cpus ∙ ap (λ (n : ℕ). boots_from setup 0 n) count in
    λ i. record { cpus = all i; log = nothing i; room = s.room; taken = none i }

-- and so it is reached
pub starts_reached : (s : SystemView) → BootsByTable s → IsReachedByTable s
starts_reached s boot setup is = subst (λ (w : SystemState). IsReached setup s.room w) (sym (boot setup is)) boots

-- The setup of a plan.

limit_is : (limits : List ℕ) (n trace k : ℕ) (limit : ℕ) → limits ≡ replicate n trace → slice_get limits k ≡ Some limit → trace ≡ limit
limit_is limits n trace k limit all at =
    let within = slice_get_within limits k limit at in
    go n k (subst (λ (l : List ℕ). slice_get l k ≡ Some limit) all at)
  where
    go : (m j : ℕ) → slice_get (replicate m trace) j ≡ Some limit → trace ≡ limit
    go zero j there = absurd (cc there)
    go (suc m) zero there = cc there
    go (suc m) (suc j) there = go m j there

pub planned_so : (plan : BootPlan) (s : SystemView) → IsPlan plan → s.caps ≡ plan.caps → s.homes ≡ homes_for plan → map (λ p. p.guests) s.cpus ≡ tables_for plan
    → map (λ p. p.limit) s.cpus ≡ replicate plan.cpus plan.trace → IsSetupFor (setup_for plan) s
planned_so plan s is caps homes guests limits = record {
  goes = record {
    each = λ k p at.
        let here : slice_get (tables_for plan) k ≡ Some p.guests = sym (ap (λ l. slice_get l k) guests) ∙ shows_at (λ (q : CpuView). q.guests) s.cpus k p at in
        let listed = listed_length (guests_for plan) plan.cpus 0 in
        let within = slice_get_within (tables_for plan) k p.guests here in
        let table : guests_for plan k ≡ p.guests =
        sym (listed_there (guests_for plan) plan.cpus k [] (omega (arith, within, listed))) ∙ get_or_from_slice_get (tables_for plan) k p.guests [] here in
        record {
          homes_are = sym homes;
          caps_are = sym caps;
          room_is = limit_is (map (λ q. q.limit) s.cpus) plan.cpus plan.trace k p.limit limits (shows_at (λ (q : CpuView). q.limit) s.cpus k p at);
          programs_are = λ t g there.
              let of = by_task plan.cpus (length plan.caps) plan.tasks is.tasks.each k t.0 g (ap (λ (l : List (Option Guest)). guest_at l t.0) table ∙ there) in
              ap program_or (shows_at (λ (task : Task). task.program) plan.tasks t.0 of.task of.there) ∙ ap (λ (x : Guest). x.program) of.is;
        };
  };
  count = grind (arith, listed_length, length-map);
}

pub planned_if : {E : Type 0} (plan : BootPlan) (r : Result SystemView E) (caps : List ℕ) (homes : List CpuId) (guests : List (List (Option Guest)))
    (limits : List ℕ) → IsPlan plan → caps ≡ plan.caps → homes ≡ homes_for plan → guests ≡ tables_for plan → limits ≡ replicate plan.cpus plan.trace
    → IfOk r (λ s. s.caps ≡ caps) → IfOk r (λ s. s.homes ≡ homes) → IfOk r (λ s. map (λ p. p.guests) s.cpus ≡ guests)
    → IfOk r (λ s. map (λ p. p.limit) s.cpus ≡ limits) → IfOk r (IsSetupFor (setup_for plan))
planned_if plan r caps homes guests limits is caps_are homes_are guests_are limits_are s_caps s_homes s_guests s_limits = grind (arith, planned_so)
