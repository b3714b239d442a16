-- A system is quiet exactly if the step table's state is; and if it is quiet, it is still.
use Rattle.std.proofs.Common.{◌≡◌, ℕ, suc, ◌+◌, ◌<◌, Bool, true, false, not, ◌&&◌, List, [], ◌∷◌, length, map, Option, Some, None, is_some, refl, ap, sym, ◌∙◌}
use Rattle.std.{proofs.{Common.{subst, arith}, lemmas.{Bool.and_parts, Option.slice_get_within}}, specs.Prelude.{slice_get, if◌then◌else◌}}
use Rattle.event_log.{specs.{declared.ids.{CpuId.CpuId, Tid.Tid}, History.same_cpu}, proofs.Same.{same_cpu_self, same_cpu_true}}
use Rattle.{thread_blocks.specs.Queues.is_in, layer_traits.specs.{declared.steps.Reason.{Reason, TheVariants.AllEnded}, Threads.Places.Threads}}
use Rattle.{layer_traits.specs.Threads.Passes.or_else, cpu.specs.{Quiescent.{IsQuiet, quiescent_by, is_quiescent, is_nobody}, Claims.{CpuView, MovesAgree}}}
use Rattle.cpu.specs.{Claims.{SystemView, buffer_at}, Cpus.{reason_in, cpu_halted_at}, Sound.{IsReachedByTable, IsSetupFor}, Systems.{own_reason, whole_of}}
use Rattle.cpu.specs.Table.{Blocks.OfPending, Choice.at_current, Steps.{cpu_numbered, halted_at, halted_by}, Setups.{CpuLocal, SystemConfig, have_ended}}
use Rattle.cpu.specs.{Table.Setups.{home_cpu, home_threads, home_threads_from, thread_at}, Observed.{NoThreadCanProceed, ObservedByTable}}
use Rattle.cpu.{specs.Wakeups.Quiet.{IsQuietTable, IsQuietBy, IsStuck}, proofs.ListFacts.ListReads.{shown_at, shows_at, there_is}}
use Rattle.cpu.proofs.Wakeups.Stuck.{quiet_is_stuck}
use Rattle.layer_traits.specs.declared.calls.Place.TheVariants as place

-- Whether all home threads of a CPU have ended.

-- a thread with home CPU c, if all of these threads have ended
pub ended_at : (p : CpuLocal) (c : CpuId) (homes : List CpuId) (i k : ℕ) (h : CpuId) → slice_get homes k ≡ Some h → same_cpu h c ≡ true
    → have_ended p (home_threads_from c homes i) ≡ true → (thread_at p (record { 0 = i + k })).ended ≡ true
ended_at p c (home ∷ homes) i (suc k) h at same all =
    let index : (i + 1) + k ≡ i + suc k = omega arith in
    rw (← index) (ended_at p c homes (i + 1) k h at same (by_test (same_cpu home c) all))
  where
    by_test : (b : Bool) → have_ended p (if b then record { 0 = i } ∷ home_threads_from c homes (i + 1) else home_threads_from c homes (i + 1)) ≡ true
        → have_ended p (home_threads_from c homes (i + 1)) ≡ true
    by_test b now = grind (arith, and_parts)
ended_at p c homes i k h at same all = grind (arith, and_parts)

-- and the converse
all_ended : (p : CpuLocal) (c : CpuId) (homes : List CpuId) (i : ℕ)
    → ((k : ℕ) (h : CpuId) → slice_get homes k ≡ Some h → same_cpu h c ≡ true → (thread_at p (record { 0 = i + k })).ended ≡ true)
    → have_ended p (home_threads_from c homes i) ≡ true
all_ended p c [] i each = refl
all_ended p c (home ∷ homes) i each =
    by_test (same_cpu home c) refl (all_ended p c homes (i + 1) (λ k h at same. let index : i + suc k ≡ (i + 1) + k = omega arith in
    subst (λ (n : ℕ). (thread_at p (record { 0 = n })).ended ≡ true) index (each (suc k) h at same)))
  where
    by_test : (b : Bool) → same_cpu home c ≡ b → have_ended p (home_threads_from c homes (i + 1)) ≡ true
        → have_ended p (if b then record { 0 = i } ∷ home_threads_from c homes (i + 1) else home_threads_from c homes (i + 1)) ≡ true
    by_test true same more =
        let index : i + 0 ≡ i = omega arith in
        let first : (thread_at p (record { 0 = i })).ended ≡ true =
        subst (λ (n : ℕ). (thread_at p (record { 0 = n })).ended ≡ true) index (each 0 home refl same) in
        ap (λ (e : Bool). e && have_ended p (home_threads_from c homes (i + 1))) first ∙ more
    by_test false same more = more

-- Why a CPU of the table is halted.

-- a CPU with a thread that continues is never halted because each has ended
never_all : (setup : SystemConfig) (c : CpuId) (p : CpuLocal) (current : Option Tid) → halted_by (at_current setup c p current) ≡ Some AllEnded → ⊥
never_all setup c p current is = grind arith

halted_ended : (setup : SystemConfig) (c : CpuId) (p : CpuLocal) → halted_at setup c p ≡ Some AllEnded → have_ended p (home_threads setup c) ≡ true
halted_ended setup c p is = grind (arith, never_all)

home_is : (setup : SystemConfig) (u : Tid) (c : CpuId) → home_cpu setup u ≡ c → u.0 < length setup.homes → slice_get setup.homes u.0 ≡ Some c
home_is setup u c same within =
    let there = there_is setup.homes u.0 within in
    there.1 ∙ ap Some (sym (ap (λ (o : Option CpuId). or_else (record { 0 = 0 }) o) there.1) ∙ same)

all_quiet : (setup : SystemConfig) (c : CpuId) (p : CpuLocal) → have_ended p (home_threads setup c) ≡ true → (u : Tid) → home_cpu setup u ≡ c
    → u.0 < length setup.homes
    → (thread_at p u).ended ≡ true
all_quiet setup c p all u home within =
    let zero_plus : 0 + u.0 ≡ u.0 = omega arith in
    subst (λ (n : ℕ). (thread_at p (record { 0 = n })).ended ≡ true) zero_plus
    (ended_at p c setup.homes 0 u.0 c (home_is setup u c home within) (same_cpu_self c) all)

quiet_all : (setup : SystemConfig) (c : CpuId) (p : CpuLocal) → ((u : Tid) → home_cpu setup u ≡ c → u.0 < length setup.homes → (thread_at p u).ended ≡ true)
    → have_ended p (home_threads setup c) ≡ true
quiet_all setup c p each = all_ended p c setup.homes 0 (λ k h at same.
    let plus_zero : k ≡ 0 + k = omega arith in
    subst (λ (n : ℕ). (thread_at p (record { 0 = n })).ended ≡ true) plus_zero
    (each (record { 0 = k }) (ap (λ (o : Option CpuId). or_else (record { 0 = 0 }) o) at ∙ same_cpu_true h c same) (slice_get_within setup.homes k h at)))

-- One CPU.

quiescent_outside : (busy : Bool) (halted : Option Reason) (local : Threads) → quiescent_by (reason_in busy halted) busy local ≡ true → busy ≡ false
quiescent_outside busy halted local quiescent = grind arith

nobody_is : (ready : List Tid) → is_nobody ready ≡ true → ready ≡ []
nobody_is ready is = grind arith

none_is : {X : Type 0} (o : Option X) → not (is_some o) ≡ true → o ≡ None
none_is o is = grind arith

quiet_is_quiescent : (setup : SystemConfig) (c : CpuId) (p : CpuLocal) (local : Threads) (halted : Option Reason) → p.current ≡ local.current
    → p.ready ≡ local.ready
    → p.hand ≡ local.hand → halted_at setup c p ≡ halted → IsQuietBy setup c p halted → quiescent_by halted false local ≡ true
quiet_is_quiescent setup c p local halted current ready hand is quiet = grind (arith, quiet_all)

-- The whole system.
module _ (s : SystemView) (told : ObservedByTable s) (setup : SystemConfig) (is : IsSetupFor setup s) where
  below : (c : CpuId) → c.0 < setup.cpus → c.0 < length s.cpus
  below c within = let count = is.count in omega (arith, count, within)

  quiescent_at : (k : ℕ) (p : CpuView) → slice_get s.cpus k ≡ Some p → IsQuiet s → quiescent_by (own_reason p) p.busy p.local ≡ true
  quiescent_at k p at quiet = sym (ap is_quiescent at) ∙ quiet.quiescent (record { 0 = k }) (slice_get_within s.cpus k p at)

  pub quiet_so : IsQuiet s → IsQuietTable setup (whole_of s)
  quiet_so quiet = record {
    outside = λ c within.
        let there = there_is s.cpus c.0 (below c within) in
        (told.cpus setup is c.0 there.0 there.1).inside
        ∙ quiescent_outside there.0.busy (cpu_halted_at there.0.local there.0.guests there.0.trace there.0.limit) there.0.local
        (quiescent_at c.0 there.0 there.1 quiet);
    cpus = λ c q at. shown_at (λ (p : CpuView). p.cpu_local) (λ k r. IsQuietBy setup (cpu_numbered k) r (halted_at setup (cpu_numbered k) r)) s.cpus
        (λ k p there.
        let one = told.cpus setup is k p there in
        let quiescent = quiescent_at k p there quiet in
        let free = quiescent_outside p.busy (cpu_halted_at p.local p.guests p.trace p.limit) p.local quiescent in
        let now = subst (λ (b : Bool). quiescent_by (reason_in b (cpu_halted_at p.local p.guests p.trace p.limit)) b p.local ≡ true) free quiescent in
        subst (λ (o : Option Reason). IsQuietBy setup (cpu_numbered k) p.cpu_local o) (sym one.halted)
        (grind (arith, and_parts, none_is, nobody_is, all_quiet, halted_ended, one.current, one.ready, one.hand, one.halted, now))) c.0 q at;
    pending = λ c within.
        let there = there_is s.cpus c.0 (below c within) in
        (told.cpus setup is c.0 there.0 there.1).pending ∙ ap (λ l. Some (OfPending l)) (quiet.pending c (below c within));
  }

  inside_of : (c : CpuId) → c.0 < length s.cpus → c.0 < setup.cpus
  inside_of c within = let count = is.count in omega (arith, count, within)

  pub so_quiet : IsQuietTable setup (whole_of s) → IsQuiet s
  so_quiet quiet = record {
    quiescent = λ c within.
        let there = there_is s.cpus c.0 within in
        let p = there.0 in
        let one = told.cpus setup is c.0 p there.1 in
        let free : p.busy ≡ false = sym one.inside ∙ quiet.outside c (inside_of c within) in
        let so = subst (λ (o : Option Reason). IsQuietBy setup c p.cpu_local o) one.halted (quiet.cpus c p.cpu_local (shows_cpu_local c.0 p there.1)) in
        let quiescent =
        quiet_is_quiescent setup c p.cpu_local p.local (cpu_halted_at p.local p.guests p.trace p.limit) one.current one.ready one.hand one.halted so in
        ap is_quiescent there.1
        ∙ subst (λ (b : Bool). quiescent_by (reason_in b (cpu_halted_at p.local p.guests p.trace p.limit)) b p.local ≡ true) (sym free) quiescent;
    pending = λ c within.
        let there = there_is s.cpus c.0 within in
        same_queue _ (sym (told.cpus setup is c.0 there.0 there.1).pending ∙ quiet.pending c (inside_of c within));
  }
    where
      shows_cpu_local : (k : ℕ) (p : CpuView) → slice_get s.cpus k ≡ Some p → slice_get (map (λ q. q.cpu_local) s.cpus) k ≡ Some p.cpu_local
      shows_cpu_local k p at = shows_at (λ (q : CpuView). q.cpu_local) s.cpus k p at

      same_queue : (l : List Tid) → Some (OfPending l) ≡ Some (OfPending []) → l ≡ []
      same_queue l same = cc same

-- a quiet system is still
pub quiet_still : (s : SystemView) → ObservedByTable s → MovesAgree s → IsReachedByTable s → IsQuiet s → NoThreadCanProceed s
quiet_still s told agree reached quiet = record {
  stuck = stuck;
  refused = λ setup is p u live e asks b m within of next allowed.
      let has = told.buffers setup is b.0 within in
      (stuck setup is).effects p u live e asks b m of next has.buffer has.there
      (rw (← has.observed.capacity, ← has.observed.items, ← has.observed.closed) allowed);
  unowned = λ setup is b within.
      let has = told.buffers setup is b within in has.observed.owner ∙ ((stuck setup is).unowned (buffer_at b) has.buffer has.there).0;
  awake = λ setup is b within.
      let has = told.buffers setup is b within in has.observed.sleepers ∙ ((stuck setup is).unowned (buffer_at b) has.buffer has.there).1;
  nobody = λ setup is t b within at.
      let there = told.places setup is t (place.LockSleeper b) within at in
      absurd (cc (sym (ap (λ (l : List Tid). is_in t l) ((stuck setup is).unowned b there.0 there.1).1) ∙ there.2));
}
  where
    homes_in : (setup : SystemConfig) → IsSetupFor setup s → setup.homes ≡ s.homes
    homes_in setup is = let first = there_is s.cpus 0 told.some in (is.goes.each 0 first.0 first.1).homes_are

    stuck : (setup : SystemConfig) → IsSetupFor setup s → IsStuck setup (whole_of s)
    stuck setup is =
        let homes = homes_in setup is in
        let long = ap (λ (l : List CpuId). length l) homes in
        quiet_is_stuck setup s.room (whole_of s) (
          omega (arith, told.few, long),
          λ t within.
              let there = there_is s.homes t.0 (omega (arith, within, long)) in
              let home : home_cpu setup t ≡ there.0 =
              ap (λ (l : List CpuId). or_else (record { 0 = 0 }) (slice_get l t.0)) homes ∙ ap (λ (o : Option CpuId). or_else (record { 0 = 0 }) o) there.1 in
              let count = is.count in omega (arith, agree.within t there.0 there.1, ap (λ (d : CpuId). d.0) home, count),
        ) (reached setup is) (quiet_so s told setup is quiet)
