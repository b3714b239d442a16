-- The text of the traces of a plan's CPUs has a spelling, and the result of writing it.
use Rattle.std.proofs.{Common.{◌≡◌, ℕ, ◌<◌, ◌≤◌, List, [], ◌∷◌, length, get_or, replicate, Some, refl, sym, ap, ◌∙◌, subst, arith}, lemmas.List.length-map}
use Rattle.std.proofs.lemmas.{List.{Elements.{All-from_get_or, recursion_from_All}, Sums.sum_by-le}, Option.{get_or_from_slice_get, slice_get_within}}
use Rattle.std.{proofs.lemmas.Option.slice_get-get_or, specs.{Prelude.{slice_get, All, Result, Ok, Err, IsErrAnd}, List.AllByRecursion}}
use Rattle.event_log.{proofs.ListLemmas.alike_at, specs.{declared.{ids.TheConstants.{CPUS, THREADS, TRACE, ENTRIES}, entries.Entry.Entry}, Messages.IsMessage}}
use Rattle.{event_log.specs.{Messages.Message, Runs.IsLegalHistory, Buffers.{empty_buffers, IsCapacity}}, boot.specs.Plan.BootPlan}
use Rattle.tracer.specs.{declared.{gathering.GatherError.GatherError, versions.Version.{Version, TheVariants.One}}, Gather.{IsOrder, TakesFirstReady}}
use Rattle.tracer.specs.{Gather.HasNoOrder, TraceText.{IsItemOf, IsSpellable, spelling}, Versions.{both, version_from, version_of, version_of_entry}}
use Rattle.tracer.{specs.Versions.{version_of_kind, version_of_message}, proofs.{OrderLemmas.{runs_have_order, run_alike}, VersionLemmas.covers_next}}
use Rattle.{tracer.proofs.VersionLemmas.covers_second, cpu.specs.{Boots.homes_for, Cpus.IsOfHome, Quiescent.TracesFit, Claims.{CpuView, HasLinearization}}}
use Rattle.{cpu.{specs.Claims.{SystemView, KeepsAffinity, traces_of}, proofs.ListFacts.ListReads.{all_by, shown_at, shows_at}}, mctower.specs.Output.IsPut}
use Rattle.mctower.specs.{Output.{IsUntouched, Output}, Plans.{IsSystemOf, IsOfPlan, from_gather}, Texts.{HaveText, IsOut, Writes}}
use Rattle.mctower.{specs.declared.run.run_faults.Fault.Fault, proofs.OrderNumbers.{order_all, run_entries, run_length, run_values, empty_values}}
use Rattle.cpu_workers.proofs.OneOrder.{order_length}
use Rattle.tracer.specs.declared.gathering.GatherError.TheVariants as gathering

-- the version of entries can spell the message of each
items_of_version : (v : Version) (es : List Entry) → AllByRecursion (λ e. IsMessage e.value) es → AllByRecursion (λ e. IsItemOf (version_from v es) e.value) es
items_of_version v [] all = tt
items_of_version v (e ∷ es) all =
    let last = version_from (both v (version_of_entry e)) es in (
      record { small = all.0; version = covers_second last (version_of_kind e.kind) (version_of_message e.value) (covers_next v e es) },
      items_of_version (both v (version_of_entry e)) es all.1,
    )

-- each order of such traces is a run that ends in what is left
ordered_run : (caps : List ℕ) (traces : List (List Entry)) (left : List (List Message)) (order : List Entry) → HaveText caps traces left
    → IsOrder traces order → IsLegalHistory caps order left
ordered_run caps traces left order have is = run_alike traces caps have.order order left have.keeps have.runs is

-- what is to be written has a spelling
pub spelled_so : (caps : List ℕ) (traces : List (List Entry)) (left : List (List Message)) (es : List Entry) → HaveText caps traces left
    → IsOrder traces es → ((k : ℕ) (d : Entry) → k < length es → IsMessage (get_or es k d).value) → IsSpellable caps es left
spelled_so caps traces left es have is values =
    let plan = have.plan in
    let caps_are = have.caps_are in
    let fit : AllByRecursion (λ (e : Entry). IsMessage e.value) es = recursion_from_All (λ e. IsMessage e.value) es values in
    let run : IsLegalHistory caps es left = ordered_run caps traces left es have is in
    let homes : length (homes_for plan) ≡ length plan.tasks = length-map plan.tasks _ in
    let threads : length (homes_for plan) ≤ THREADS = omega (arith, homes, have.within.tasks.most) in
    let short : All (λ (trace : List Entry). length trace ≤ TRACE) traces =
    All-from_get_or (λ trace. length trace ≤ TRACE) traces [] (λ k lt.
    omega (arith, have.fit k (get_or traces k []) (slice_get-get_or traces k [] lt), have.within.most_trace)) in
    let few : length es ≤ ENTRIES = omega (arith, sum_by-le length TRACE traces short, order_length traces es is.0, have.count, have.within.most_cpus) in
    let local : AllByRecursion (λ (e : Entry). (e.cpu.0 < CPUS) × (e.thread.0 < THREADS)) es =
    order_all (λ e. (e.cpu.0 < CPUS) × (e.thread.0 < THREADS)) traces es (λ k trace at.
    let here : k < CPUS = omega (arith, slice_get_within traces k trace at, have.count, have.within.most_cpus) in
    all_by (IsOfHome (homes_for plan) (record { 0 = k })) (λ e. (e.cpu.0 < CPUS) × (e.thread.0 < THREADS)) trace
    (λ e is. (rw is.cpu here, omega (arith, slice_get_within (homes_for plan) e.thread.0 (record { 0 = k }) is.home, threads))) (have.stay k trace at)) is.0 in
    record {
      some_buffer = rw caps_are have.within.caps.some;
      few_buffers = rw caps_are have.within.caps.most;
      capacities = rw caps_are (recursion_from_All IsCapacity plan.caps have.within.caps.each);
      few_entries = few;
      entries = run_entries caps [] (empty_buffers caps) es left (omega arith) run local fit;
      each_left = run_length caps [] (empty_buffers caps) es left run ∙ length-map caps _;
      values = run_values (IsItemOf (version_of es)) caps [] (empty_buffers caps) es left (empty_values (IsItemOf (version_of es)) caps)
          (items_of_version One es fit) run;
    }

-- what is out of it
pub out_so : (caps : List ℕ) (traces : List (List Entry)) (left : List (List Message)) (es : List Entry) (out : Output) → HaveText caps traces left
    → IsOrder traces es → TakesFirstReady traces es → ((k : ℕ) (d : Entry) → k < length es → IsMessage (get_or es k d).value)
    → IsPut out (spelling caps es left) → IsOut caps traces left out
out_so caps traces left es out have is first values put = record {
  text = spelling caps es left;
  is = record {
    order = es;
    keeps = is;
    first = first;
    run = ordered_run caps traces left es have is;
    spelled = record { spellable = spelled_so caps traces left es have is values; spelled = refl };
  };
  out = put;
}

-- a failure to gather is that memory ran out
pub gather_refused : (A : Type 0) (caps : List ℕ) (traces : List (List Entry)) (left : List (List Message)) (error : GatherError) (out : Output)
    → HaveText caps traces left → IsUntouched out → (error ≡ gathering.NoOrder → HasNoOrder traces)
    → Writes {A = A} caps traces left (Err (from_gather error)) out
gather_refused A caps traces left (gathering.NoMemory refused) out have untouched none = untouched
gather_refused A caps traces left gathering.NoOrder out have untouched none =
    absurd (runs_have_order traces caps have.order left have.keeps have.runs (none refl))

-- a fault that is passed on
pub err_writes : {A : Type 0} (caps : List ℕ) (traces : List (List Entry)) (left : List (List Message)) (r : Result A Fault) (e : Fault) (out : Output)
    → IsErrAnd r (λ f. f ≡ e) → Writes {A = A} caps traces left (Err e) out → Writes caps traces left r out
err_writes caps traces left (Ok x) e out is writes = absurd is
err_writes {A = A} caps traces left (Err f) e out is writes = subst (λ x. Writes {A = A} caps traces left (Err x) out) (sym is) writes

-- ---- a plan's system

-- a CPU of a plan's system has room for as many entries as the plan says
pub limit_at : (plan : BootPlan) (s : SystemView) (k : ℕ) (p : CpuView) → IsSystemOf plan s → slice_get s.cpus k ≡ Some p → p.limit ≡ plan.trace
limit_at plan s k p of at =
    sym (get_or_from_slice_get (replicate plan.cpus plan.trace) k p.limit plan.trace
    (ap (λ l. slice_get l k) (sym of.limits) ∙ shows_at (λ (x : CpuView). x.limit) s.cpus k p at)) ∙ alike_at plan.cpus k plan.trace

-- the traces of a plan's system have a text
pub system_has : (cpus : ℕ) (caps : List ℕ) (s : SystemView) → IsOfPlan cpus caps s → TracesFit s → KeepsAffinity s → HasLinearization s
    → HaveText caps (traces_of s) s.contents
system_has cpus caps s of fits stay one = record {
  plan = of.plan;
  within = of.within;
  caps_are = of.caps;
  count = length-map s.cpus (λ (p : CpuView). p.trace) ∙ of.system.cpus;
  fit = shown_at (λ (p : CpuView). p.trace) (λ k trace. length trace ≤ of.plan.trace) s.cpus
      (λ k p at. omega (arith, fits k p at, limit_at of.plan s k p of.system at));
  stay = shown_at (λ (p : CpuView). p.trace) (λ k trace. AllByRecursion (IsOfHome (homes_for of.plan) (record { 0 = k })) trace) s.cpus
      (λ k p at. rw of.system.homes at (stay k p at));
  order = s.order;
  keeps = one.keeps;
  runs = subst (λ l. IsLegalHistory l s.order s.contents) (of.system.caps ∙ sym of.caps) one.run;
}
