-- What is printed is a history: its order is one of the traces, each of which holds the calls of
-- its CPU's home threads.
use Rattle.std.proofs.Common.{◌≡◌, inl, inr, ℕ, zero, suc, ◌<◌, ◌==◌, Bool, true, false, List, [], ◌∷◌, length, map, set, Option, Some, None, option_map, refl}
use Rattle.std.proofs.{Common.{ap, sym, ◌∙◌, subst}, lemmas.{Bool.{cases_eq, eqb-true}, Option.{get_or_from_slice_get, slice_get_within, slice_get-get_or}}}
use Rattle.std.specs.{Prelude.{Result, slice_get, slice_index_or}, List.AllByRecursion}
use Rattle.event_log.{specs.{declared.{entries.Entry.Entry, ids.{CpuId.CpuId, Tid.Tid}}, Messages.Message, Traces.IsInterleaving}, proofs.Streams.taken_put}
use Rattle.guest.specs.{declared.instructions.Instruction.Instruction, Calls.{AreProgramsCalls, made_none}, State.at_start}
use Rattle.{layer_traits.specs.Threads.{OnePlace.cpu_at, Places.home_of}, boot.specs.Plan.{BootPlan, Task, plan_home_of, plan_program_of}}
use Rattle.cpu.specs.{declared.guests.Guest.Guest, Boots.{guests_for, homes_for, tables_for}, Claims.{CpuView, SystemView, programs_in, traces_of}}
use Rattle.cpu.specs.{Cpus.{IsOfHome, guest_at, of_thread, programs_of}, Sound.setup_for, Table.Setups.{program_of, program_or}}
use Rattle.cpu.proofs.{ListFacts.ListReads.{listed_length, listed_there, set_else, set_there, shown_at, shows_at}, WholeSystems.PlanGuests.guest_home}
use Rattle.cpu_workers.specs.{declared.workers.stops.Stop.Stop, Lawful.{CpuReport, ReportsTrue, ReportView, left_in}}
use Rattle.mctower.specs.{declared.{refusals.Refusal.Refusal, serve.outcomes.Done.Done}, Histories.{IsHistoryText, TextsAreHistories}, Output.Output}
use Rattle.mctower.{specs.{Serve.RunsTrace, Texts.IsTextOf, Threads.{AlwaysOpen, IsWorkedPlan}}, proofs.OrderNumbers.order_all}

-- One thread's entries in an order of traces.

-- a thread with no entry in a trace has none after its first
none_behind : (t : ℕ) (e : Entry) (rest : List Entry) → of_thread t (e ∷ rest) ≡ [] → of_thread t rest ≡ []
none_behind t e rest none = go (e.thread.0 == t) refl
  where
    go : (b : Bool) → (e.thread.0 == t) ≡ b → of_thread t rest ≡ []
    go true is = let some : of_thread t (e ∷ rest) ≡ e ∷ of_thread t rest = rw is refl in absurd (cc (some, none))
    go false is = let same : of_thread t (e ∷ rest) ≡ of_thread t rest = rw is refl in sym same ∙ none

read_alike : (xs ys : List (List Entry)) (n : ℕ) → slice_get xs n ≡ slice_get ys n → slice_index_or xs n [] ≡ slice_index_or ys n []
read_alike [] [] n same = refl
read_alike [] (y ∷ ys) zero same = absurd cc
read_alike [] (y ∷ ys) (suc n) same = read_alike [] ys n same
read_alike (x ∷ xs) [] zero same = absurd cc
read_alike (x ∷ xs) [] (suc n) same = read_alike xs [] n same
read_alike (x ∷ xs) (y ∷ ys) zero same = cc
read_alike (x ∷ xs) (y ∷ ys) (suc n) same = read_alike xs ys n same

-- one entry more in front of two lists in which the thread has the same
first_is : (t : ℕ) (e : Entry) (es fs : List Entry) (b : Bool) → (e.thread.0 == t) ≡ b → of_thread t es ≡ of_thread t fs
    → of_thread t (e ∷ es) ≡ of_thread t (e ∷ fs)
first_is t e es fs true is rest = rw is (ap (λ l. e ∷ l) rest)
first_is t e es fs false is rest = rw is rest

-- an entry in front of a trace in which the thread has none is not the thread's
first_away : (t : ℕ) (e : Entry) (es fs : List Entry) (b : Bool) → (e.thread.0 == t) ≡ b → of_thread t (e ∷ fs) ≡ []
    → of_thread t (e ∷ es) ≡ of_thread t es
first_away t e es fs true is none = let some : of_thread t (e ∷ fs) ≡ e ∷ of_thread t fs = rw is refl in absurd (cc (some, none))
first_away t e es fs false is none = rw is refl

-- An order takes its first entry from one trace.
module _ (t k : ℕ) (traces : List (List Entry)) (e : Entry) (es : List Entry) (at : ℕ) (rest : List Entry) (here : slice_get traces at ≡ Some (e ∷ rest))
    (away : (j : ℕ) (trace : List Entry) → slice_get traces j ≡ Some trace → (j ≡ k → ⊥) → of_thread t trace ≡ []) where
  there : at < length traces
  there = slice_get_within traces at (e ∷ rest) here

  left_away : (j : ℕ) (trace : List Entry) → slice_get (set traces at rest) j ≡ Some trace → (j ≡ k → ⊥) → of_thread t trace ≡ []
  left_away j trace is other = elim (cases_eq j at) [
    | inl same ↦
        let now : rest ≡ trace = cc (set_there traces at rest there, ap (λ (i : ℕ). slice_get (set traces at rest) i) same, is) in
        ap (of_thread t) (sym now) ∙ none_behind t e rest (away at (e ∷ rest) here (λ local. other (same ∙ local)))
    | inr differ ↦ away j trace (sym (set_else traces at j rest differ) ∙ is) other
  ]

  one_more : of_thread t es ≡ of_thread t (slice_index_or (set traces at rest) k []) → of_thread t (e ∷ es) ≡ of_thread t (slice_index_or traces k [])
  one_more later = elim (cases_eq at k) [
    | inl same ↦
        let now : slice_index_or traces k [] ≡ e ∷ rest =
        ap (λ (i : ℕ). slice_index_or traces i []) (sym same) ∙ get_or_from_slice_get traces at (e ∷ rest) [] here in
        let after : slice_index_or (set traces at rest) k [] ≡ rest =
        ap (λ (i : ℕ). slice_index_or (set traces at rest) i []) (sym same)
        ∙ get_or_from_slice_get (set traces at rest) at rest [] (set_there traces at rest there) in
        first_is t e es rest (e.thread.0 == t) refl (later ∙ ap (of_thread t) after) ∙ ap (of_thread t) (sym now)
    | inr differ ↦
        first_away t e es rest (e.thread.0 == t) refl (away at (e ∷ rest) here differ) ∙ later
        ∙ ap (of_thread t) (read_alike (set traces at rest) traces k (set_else traces at k rest (λ local. differ (sym local))))
  ]

-- the entries of a thread in an order of traces are those of one trace, where no other has any
thread_in_order : (t k : ℕ) (traces : List (List Entry)) (order : List Entry)
    → ((j : ℕ) (trace : List Entry) → slice_get traces j ≡ Some trace → (j ≡ k → ⊥) → of_thread t trace ≡ []) → IsInterleaving traces order
    → of_thread t order ≡ of_thread t (slice_index_or traces k [])
thread_in_order t k traces [] away keeps = sym (ap (of_thread t) (keeps k))
thread_in_order t k traces (e ∷ es) away keeps =
    one_more t k traces e es keeps.0 keeps.1 keeps.2 away
    (thread_in_order t k (set traces keeps.0 keeps.1) es (left_away t k traces e es keeps.0 keeps.1 keeps.2 away) keeps.3)

-- a trace of another home has no entry of the thread
away_from : (homes : List CpuId) (t : Tid) (c d : CpuId) (trace : List Entry) → home_of homes t ≡ Some c → (d.0 ≡ c.0 → ⊥)
    → AllByRecursion (IsOfHome homes d) trace → of_thread t.0 trace ≡ []
away_from homes t c d [] home other stays = refl
away_from homes t c d (e ∷ rest) home other stays = go (e.thread.0 == t.0) refl (away_from homes t c d rest home other stays.1)
  where
    go : (b : Bool) → (e.thread.0 == t.0) ≡ b → of_thread t.0 rest ≡ [] → of_thread t.0 (e ∷ rest) ≡ []
    go true is behind =
        let same : e.thread.0 ≡ t.0 = eqb-true e.thread.0 t.0 is in
        let both : Some d ≡ Some c = sym stays.0.home ∙ ap (λ (i : ℕ). slice_get homes i) same ∙ home in
        absurd (other (ap (λ (h : CpuId). h.0) (cc both)))
    go false is behind = rw is behind

-- A text of traces that each hold the calls of their homes' threads is a history.
module _ (plan : BootPlan) (traces : List (List Entry)) (left : List (List Message)) (text : List ℕ) (is : IsTextOf plan.caps traces left text)
    (stays : (c : ℕ) (trace : List Entry) → slice_get traces c ≡ Some trace → AllByRecursion (IsOfHome (homes_for plan) (cpu_at c)) trace)
    (calls : (c : ℕ) (trace : List Entry) → slice_get traces c ≡ Some trace → (t : Tid) → home_of (homes_for plan) t ≡ Some (cpu_at c)
    → AreProgramsCalls (plan_program_of plan t.0) (of_thread t.0 trace)) where
  at_home : (e : Entry) (c : CpuId) → IsOfHome (homes_for plan) c e → home_of (homes_for plan) e.thread ≡ Some e.cpu
  at_home e c of = of.home ∙ ap (λ (k : ℕ). Some (cpu_at k)) (sym of.cpu)

  all_home : (c : CpuId) (trace : List Entry) → AllByRecursion (IsOfHome (homes_for plan) c) trace
      → AllByRecursion (λ e. home_of (homes_for plan) e.thread ≡ Some e.cpu) trace
  all_home c [] all = tt
  all_home c (e ∷ rest) all = (at_home e c all.0, all_home c rest all.1)

  entries : (t : Tid) (c : CpuId) → home_of (homes_for plan) t ≡ Some c → of_thread t.0 is.order ≡ of_thread t.0 (slice_index_or traces c.0 [])
  entries t c home =
      thread_in_order t.0 c.0 traces is.order
      (λ j trace at other. away_from (homes_for plan) t c (cpu_at j) trace home other (stays j trace at)) is.keeps.0

  by_trace : (t : Tid) (c : CpuId) → home_of (homes_for plan) t ≡ Some c → (ts : List (List Entry)) (k : ℕ)
      → ((trace : List Entry) → slice_get ts k ≡ Some trace → AreProgramsCalls (plan_program_of plan t.0) (of_thread t.0 trace))
      → AreProgramsCalls (plan_program_of plan t.0) (of_thread t.0 (slice_index_or ts k []))
  by_trace t c home [] k each = (at_start, made_none)
  by_trace t c home (x ∷ xs) zero each = each x refl
  by_trace t c home (x ∷ xs) (suc k) each = by_trace t c home xs k each

  pub history_of : IsHistoryText plan text
  history_of = record {
    order = is.order;
    left = left;
    run = is.run;
    fifo = taken_put plan.caps is.order left is.run;
    home = order_all (λ e. home_of (homes_for plan) e.thread ≡ Some e.cpu) traces is.order
        (λ k trace at. all_home (cpu_at k) trace (stays k trace at)) is.keeps.0;
    programs = λ t c home.
        subst (λ (l : List Entry). AreProgramsCalls (plan_program_of plan t.0) l) (sym (entries t c home))
        (by_trace t c home traces c.0 (λ trace at. calls c.0 trace at t home));
    spelled = is.spelled;
  }

-- What threads print.

-- a thread's program, by either name
program_alike : (programs : List (List Instruction)) (t : ℕ) → program_or (slice_get programs t) ≡ slice_index_or programs t []
program_alike [] t = refl
program_alike (p ∷ ps) zero = refl
program_alike (p ∷ ps) (suc t) = program_alike ps t

module _ (plan : BootPlan) (turns : ℕ) (stops : List Stop) (text : List ℕ) (worked : IsWorkedPlan plan turns stops text) where
  abbrev r : ReportView
  r = worked.report

  told : (c : ℕ) (trace : List Entry) → slice_get r.traces c ≡ Some trace
      → (line : CpuReport) × (line.trace ≡ trace) × ReportsTrue (setup_for plan) (AlwaysOpen (cpu_at c)) turns (cpu_at c) line
  told c trace at =
      let below : c < plan.cpus = rw worked.words.tells.report.report.traces_count at (slice_get_within r.traces c trace at) in
      let one = worked.words.tells.report.report.each (cpu_at c) below in
      let known = one.1.trace in
      (one.0, cc (known, at), one.2)

  told_stays : (c : ℕ) (trace : List Entry) → slice_get r.traces c ≡ Some trace → AllByRecursion (IsOfHome (homes_for plan) (cpu_at c)) trace
  told_stays c trace at = let one = told c trace at in rw one.1 at one.2.stays

  told_calls : (c : ℕ) (trace : List Entry) → slice_get r.traces c ≡ Some trace → (t : Tid) → home_of (homes_for plan) t ≡ Some (cpu_at c)
      → AreProgramsCalls (plan_program_of plan t.0) (of_thread t.0 trace)
  told_calls c trace at t home =
      let one = told c trace at in
      let mine : AreProgramsCalls (program_of (setup_for plan) t) (of_thread t.0 trace) = rw one.1 at (one.2.calls t home) in
      subst (λ (l : List Instruction). AreProgramsCalls l (of_thread t.0 trace)) (program_alike (map (λ (task : Task). task.program) plan.tasks) t.0) mine

  threads_history : IsHistoryText plan text
  threads_history = history_of plan r.traces (left_in (length plan.caps) r) text worked.is told_stays told_calls

-- What a run prints.

-- the programs of a table of guests, read at a thread's number
program_at : (guests : List (Option Guest)) (t : ℕ) → slice_index_or (programs_of guests) t None ≡ option_map (λ (g : Guest). g.program) (guest_at guests t)
program_at [] t = refl
program_at (g ∷ gs) zero = refl
program_at (g ∷ gs) (suc t) = program_at gs t

-- a thread whose home is a CPU of the plan
home_is : (plan : BootPlan) (t : Tid) (c : CpuId) → home_of (homes_for plan) t ≡ Some c → (t.0 < length plan.tasks) × (plan_home_of plan t.0 ≡ c.0)
home_is plan t c home =
    shown_at (λ (task : Task). cpu_at task.home) (λ k d. (k < length plan.tasks) × (plan_home_of plan k ≡ d.0)) plan.tasks
    (λ k task there. (
      slice_get_within plan.tasks k task there,
      get_or_from_slice_get (map (λ (x : Task). x.home) plan.tasks) k task.home 0 (shows_at (λ (x : Task). x.home) plan.tasks k task there),
    )) t.0 c home

-- the guest of a thread on its home has the plan's program
guest_is : (plan : BootPlan) (s : SystemView) → programs_in s ≡ map programs_of (tables_for plan) → (c : ℕ) (p : CpuView) → slice_get s.cpus c ≡ Some p
    → c < plan.cpus → (t : Tid) → home_of (homes_for plan) t ≡ Some (cpu_at c)
    → (g : Guest) × (guest_at p.guests t.0 ≡ Some g) × (g.program ≡ plan_program_of plan t.0)
guest_is plan s programs c p at below t home = found (guest_at p.guests t.0) refl
  where
    here : (t.0 < length plan.tasks) × (plan_home_of plan t.0 ≡ c)
    here = home_is plan t (cpu_at c) home

    tables_at : slice_get (tables_for plan) c ≡ Some (guests_for plan c)
    tables_at =
        slice_get-get_or (tables_for plan) c [] (rw (listed_length (guests_for plan) plan.cpus 0) below)
        ∙ ap (λ (l : List (Option Guest)). Some l) (listed_there (guests_for plan) plan.cpus c [] below)

    same : programs_of p.guests ≡ programs_of (guests_for plan c)
    same =
        let shown = shows_at (λ (q : CpuView). programs_of q.guests) s.cpus c p at in
        let abstract_call = shows_at programs_of (tables_for plan) c (guests_for plan c) tables_at in
        cc (shown, abstract_call, ap (λ (l : List (List (Option (List Instruction)))). slice_get l c) programs)

    program : option_map (λ (g : Guest). g.program) (guest_at p.guests t.0) ≡ Some (plan_program_of plan t.0)
    program =
        sym (program_at p.guests t.0) ∙ ap (λ (l : List (Option (List Instruction))). slice_index_or l t.0 None) same
        ∙ program_at (guests_for plan c) t.0
        ∙ ap (λ (o : Option Guest). option_map (λ (g : Guest). g.program) o) (sym (guest_home plan c t.0 here.0 here.1))

    found : (o : Option Guest) → guest_at p.guests t.0 ≡ o → (g : Guest) × (guest_at p.guests t.0 ≡ Some g) × (g.program ≡ plan_program_of plan t.0)
    found None is = absurd (cc (program, ap (λ (o : Option Guest). option_map (λ (g : Guest). g.program) o) is))
    found (Some g) is =
        let both : Some g.program ≡ Some (plan_program_of plan t.0) =
        ap (λ (o : Option Guest). option_map (λ (x : Guest). x.program) o) (sym is) ∙ program in
        (g, is, cc both)

module _ (plan : BootPlan) (steps : List CpuId) (answer : Result Done Refusal) (printed : Output) (runs : RunsTrace plan steps answer printed) where
  abbrev s : SystemView
  s = runs.system

  shown_stays : (c : ℕ) (trace : List Entry) → slice_get (traces_of s) c ≡ Some trace → AllByRecursion (IsOfHome (homes_for plan) (cpu_at c)) trace
  shown_stays c trace at =
      subst (λ (homes : List CpuId). AllByRecursion (IsOfHome homes (cpu_at c)) trace) runs.ran.system.homes
      (shown_at (λ (p : CpuView). p.trace) (λ k l. AllByRecursion (IsOfHome s.homes (cpu_at k)) l) s.cpus (λ k p there. runs.ran.stay k p there) c trace at)

  shown_calls : (c : ℕ) (trace : List Entry) → slice_get (traces_of s) c ≡ Some trace → (t : Tid) → home_of (homes_for plan) t ≡ Some (cpu_at c)
      → AreProgramsCalls (plan_program_of plan t.0) (of_thread t.0 trace)
  shown_calls c trace at =
      shown_at (λ (p : CpuView). p.trace) (λ k l. (t : Tid) → home_of (homes_for plan) t ≡ Some (cpu_at k)
      → AreProgramsCalls (plan_program_of plan t.0) (of_thread t.0 l)) s.cpus
      (λ k p there t home.
      let below : k < plan.cpus = rw runs.ran.system.cpus at (slice_get_within s.cpus k p there) in
      let one = guest_is plan s runs.ran.system.programs k p there below t home in
      subst (λ (l : List Instruction). AreProgramsCalls l (of_thread t.0 p.trace)) one.2 (runs.ran.follow k p t one.0 there one.1).calls) c trace at

  run_history : IsHistoryText plan runs.trace
  run_history = history_of plan (traces_of s) s.contents runs.trace runs.traced shown_stays shown_calls

pub texts_are_histories : TextsAreHistories
texts_are_histories = record { of_run = run_history; of_threads = threads_history }
