-- A CPU and the table's private state agree on each thread, and on why the CPU is halted.
use Rattle.std.proofs.Common.{◌≡◌, ℕ, zero, suc, ◌+◌, ◌<◌, ◌==◌, Bool, true, false, ◌&&◌, List, [], ◌∷◌, length, cond, get_or, Option, Some, None, is_some}
use Rattle.std.{proofs.{Common.{option_map, slice_get, if◌then◌else◌, refl, ap, sym, ◌∙◌, subst, arith}, lemmas.List.Sums.sum_by-cons}, specs.List.list_all}
use Rattle.layer_traits.specs.{Views.OwnParts.threads_in, declared.{calls.{Call.Call, Effect.Effect}, steps.Reason.{Reason, TheVariants.{AllEnded, TraceFull}}}}
use Rattle.{layer_traits.specs.Layers.{QLockLaw.slept_for, BufferLaw.{Buffering, begun_of, call_state_of}}, event_log.specs.declared.entries.Entry.Entry}
use Rattle.event_log.{specs.{declared.ids.{CpuId.CpuId, Tid.Tid}, History.same_cpu}, proofs.Same.{same_cpu_self, same_cpu_true}}
use Rattle.{guest.specs.{declared.instructions.Instruction.Instruction, State.{State, next_of}}, cpu.specs.declared.guests.{Guest.Guest, GuestStage.GuestStage}}
use Rattle.cpu.specs.{Guests.{HasComeIn, is_begun, is_calling, is_ended}, Cpus.{begins_call, begun_count, chosen_at, guest_at, cpu_halted_at, is_begun_guest}}
use Rattle.cpu.specs.{Cpus.{is_over, of_cpu, of_thread}, Table.Setups.{SystemConfig, CpuLocal, Thread, have_ended, home_threads, home_threads_from}}
use Rattle.cpu.specs.Table.{Setups.{is_open_call, open_calls, stands_at, thread_at}, Choice.{Choice, Halts, at_call, at_current}, Steps.{halted_at, halted_by}}
use Rattle.cpu.specs.{Tower.Privates.{call_from, is_deferred, stage_from, thread_of, tid}, Tables.{IsSetupOf, cpu_local, guest_state_of, guest_states}}
use Rattle.cpu.proofs.{CpuSteps.CpuStates.TabledCpu, Tower.BegunPolls.thread_here, ListFacts.GuestLists.guest_within}

-- the states of the guests
pub states_at : (guests : List (Option Guest)) (k : ℕ) (g : Guest) → guest_at guests k ≡ Some g → (s : State) → get_or (guest_states guests) k s ≡ g.thread
states_at [] k g is s = absurd (cc is)
states_at (o ∷ guests) zero g is s = ap guest_state_of is
states_at (o ∷ guests) (suc k) g is s = states_at guests k g is s

pub states_long : (guests : List (Option Guest)) → length (guest_states guests) ≡ length guests
states_long [] = refl
states_long (o ∷ guests) = let rec = states_long guests in omega (arith, rec)

-- A thread's row: on its home CPU it has a guest and agrees with it, on any other it has none.

pub record Row (c : CpuId) (p : CpuLocal) (t : Tid) (home : CpuId) (o : Option Guest) : Type 0 where
  pub mine : same_cpu home c ≡ true
      → (g : Guest) × (o ≡ Some g) × ((thread_at p t).ended ≡ is_ended g.stage) × (is_open_call (thread_at p t).call ≡ is_begun g.stage)
  pub other : same_cpu home c ≡ false → o ≡ None

abbrev Rows : CpuId → CpuLocal → List CpuId → List (Option Guest) → ℕ → Type 0
Rows c p homes guests n = (k : ℕ) (home : CpuId) → slice_get homes k ≡ Some home → Row c p (tid (n + k)) home (guest_at guests k)

rows_behind : (c : CpuId) (p : CpuLocal) (h : CpuId) (homes : List CpuId) (o : Option Guest) (guests : List (Option Guest)) (n : ℕ)
    → Rows c p (h ∷ homes) (o ∷ guests) n → Rows c p homes guests (n + 1)
rows_behind c p h homes o guests n rows k home at =
    let e : n + suc k ≡ n + 1 + k = omega arith in subst (λ m. Row c p (tid m) home (guest_at guests k)) e (rows (suc k) home at)

row_first : (c : CpuId) (p : CpuLocal) (h : CpuId) (homes : List CpuId) (o : Option Guest) (guests : List (Option Guest)) (n : ℕ)
    → Rows c p (h ∷ homes) (o ∷ guests) n → Row c p (tid n) h o
row_first c p h homes o guests n rows = let e : n + 0 ≡ n = omega arith in subst (λ m. Row c p (tid m) h o) e (rows 0 h refl)

-- all have ended if all are over, and as many calls are open as have begun
rows_told : (c : CpuId) (p : CpuLocal) (homes : List CpuId) (guests : List (Option Guest)) (n : ℕ) → length guests ≡ length homes → Rows c p homes guests n
    → (have_ended p (home_threads_from c homes n) ≡ list_all is_over guests) × (open_calls p (home_threads_from c homes n) ≡ begun_count guests)
rows_told c p [] [] n long rows = (refl, refl)
rows_told c p (h ∷ homes) (o ∷ guests) n long rows =
    let behind : length guests ≡ length homes = omega (arith, long) in
    let told = go (same_cpu h c) refl (rows_told c p homes guests (n + 1) behind (rows_behind c p h homes o guests n rows)) in
    (told.0, told.1 ∙ sym (sum_by-cons (λ (g : Option Guest). cond (is_begun_guest g) 1 0) o guests))
  where
    first_row : Row c p (tid n) h o
    first_row = row_first c p h homes o guests n rows

    go : (b : Bool) → same_cpu h c ≡ b
        → (have_ended p (home_threads_from c homes (n + 1)) ≡ list_all is_over guests)
        × (open_calls p (home_threads_from c homes (n + 1)) ≡ begun_count guests)
        → (have_ended p (if b then tid n ∷ home_threads_from c homes (n + 1) else home_threads_from c homes (n + 1)) ≡ (is_over o && list_all is_over guests))
        × (open_calls p (if b then tid n ∷ home_threads_from c homes (n + 1) else home_threads_from c homes (n + 1))
        ≡ cond (is_begun_guest o) 1 0 + begun_count guests)
    go b is more = grind (arith, first_row)
rows_told c p homes guests n long rows = absurd (omega (arith, long))

-- whether there is a call at all
pub call_is : (stage : GuestStage) (program : List Instruction) (s : State) (es : List Entry) (begun : Option Call) (effect : Option Effect)
    → HasComeIn stage program s es begun effect → is_some begun ≡ is_calling stage
call_is stage program s es begun effect follows = grind arith

halts_if : (b : Bool) (x : Choice) (y : Option Reason) → halted_by x ≡ y → halted_by (if b then Halts AllEnded else x) ≡ (if b then Some AllEnded else y)
halts_if b x y same = grind arith

-- a guest's thread as the table has it
pub guest_there : (local : Buffering) (guests : List (Option Guest)) (trace : List Entry) (t : Tid) (g : Guest) → guest_at guests t.0 ≡ Some g
    → thread_at (cpu_local local guests trace) t ≡ thread_of local t g.thread
guest_there local guests trace t g at =
    let within : t.0 < length (guest_states guests) = subst (λ n. t.0 < n) (sym (states_long guests)) (guest_within guests t.0 g at) in
    thread_here local (guest_states guests) trace t within ∙ ap (thread_of local t) (states_at guests t.0 g at _)

module _ (cpu : TabledCpu) where
  open cpu use {homes, caps, history, local, number, guests, trace, limit, is, tabled, home}

  abbrev p : CpuLocal
  p = cpu_local local guests trace

  abbrev follows_at : (t : Tid) (g : Guest) → guest_at guests t.0 ≡ Some g
      → HasComeIn g.stage g.program g.thread (of_thread t.0 (of_cpu number history)) (begun_of (call_state_of local.call_states t))
      (call_state_of local.call_states t).effect
  follows_at t g at = (is.follow t g at).1

  open_at : (t : Tid) (g : Guest) → guest_at guests t.0 ≡ Some g → is_open_call (thread_at p t).call ≡ is_begun g.stage
  open_at t g at = ap (λ (x : Thread). is_open_call x.call) (guest_there local guests trace t g at) ∙ (grind (arith, follows_at t g at))

  ended_at : (t : Tid) (g : Guest) → guest_at guests t.0 ≡ Some g → (thread_at p t).ended ≡ is_ended g.stage
  ended_at t g at = ap (λ (x : Thread). x.ended) (guest_there local guests trace t g at) ∙ (grind arith)

  row : Rows number p homes guests 0
  row k home at =
      let e : k ≡ 0 + k = omega arith in
      subst (λ m. Row number p (tid m) home (guest_at guests k)) e (record {
        mine = λ same.
            let there = is.homed (tid k) (at ∙ ap Some (same_cpu_true home number same)) in
            (there.0, there.1, ended_at (tid k) there.0 there.1, open_at (tid k) there.0 there.1);
        other = λ differs. none (guest_at guests k) refl differs;
      })
    where
      none : (o : Option Guest) → guest_at guests k ≡ o → same_cpu home number ≡ false → o ≡ None
      none o found differs = grind (arith, tabled.only (tid k), same_cpu_self, at)

  module _ (setup : SystemConfig) (of : IsSetupOf setup homes caps guests limit) where
    all_ended : have_ended p (home_threads setup number) ≡ list_all is_over guests
    all_ended = ap (λ l. have_ended p (home_threads_from number l 0)) of.homes_are ∙ (rows_told number p homes guests 0 tabled.size row).0

    all_open : open_calls p (home_threads setup number) ≡ begun_count guests
    all_open = ap (λ l. open_calls p (home_threads_from number l 0)) of.homes_are ∙ (rows_told number p homes guests 0 tabled.size row).1

    -- the instruction at which a thread is
    pub stands_there : (t : Tid) (g : Guest) → guest_at guests t.0 ≡ Some g → stands_at setup p t ≡ next_of g.program g.thread
    stands_there t g at = (λ i. next_of (of.programs_are t g at i) (guest_there local guests trace t g at i).guest)

    abbrev full : Bool
    full = length trace + begun_count guests == limit

    -- the rest of why a CPU is halted
    abbrev rest_by : Option Tid → Option Tid → List Tid → Option Reason
    rest_by current hand ready = if begins_call (chosen_at current hand ready guests) guests && full then Some TraceFull else None

    hand_rest : (s : Tid) (current : Option Tid) → rest_by current (Some s) (threads_in local).ready ≡ None
    hand_rest s current = grind arith

    pub call_of : (t : Tid) (g : Guest) → guest_at guests t.0 ≡ Some g
        → (thread_at p t).call ≡ option_map (λ call. call_from call (call_state_of local.call_states t).position (call_state_of local.call_states t).effect
        (stage_from (call_state_of local.call_states t).stage (slept_for local.cv.lock.slept t) (slept_for local.cv.waits t) (is_deferred local t))) (begun_of
        (call_state_of local.call_states t))
    call_of t g at = ap (λ (x : Thread). x.call) (guest_there local guests trace t g at)

    current_rest : (t : Tid) (g : Guest) → guest_at guests t.0 ≡ Some g
        → halted_by (at_call setup number p t (thread_at p t).call) ≡ rest_by (Some t) None (threads_in local).ready
    current_rest t g at = grind (arith, call_of t g at, call_is, follows_at t g at, stands_there t g at, all_open)

    -- the table's CPU is halted as this one is
    pub halted_same : halted_at setup number p ≡ cpu_halted_at (threads_in local) guests trace limit
    halted_same = grind (arith, hand_rest, all_ended, halts_if, by_current)
      where
        by_current : (current : Option Tid) → (threads_in local).current ≡ current
            → halted_by (at_current setup number p current) ≡ rest_by current None (threads_in local).ready
        by_current None idle = grind arith
        by_current (Some t) runs = let there = is.homed t (home t runs) in current_rest t there.0 there.1
