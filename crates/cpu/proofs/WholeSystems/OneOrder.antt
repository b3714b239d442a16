-- The invariant of a system implies that its calls have one order, that each thread follows its
-- program, and that entries are on home CPUs.
use Rattle.std.proofs.Common.{◌≡◌, ◌⊎◌, ℕ, zero, suc, ◌<◌, ◌==◌, Bool, true, false, List, [], ◌∷◌, ◌++◌, length, map, reverse, Option, Some, refl, ap, sym, ◌∙◌}
use Rattle.std.proofs.{Common.{subst, arith, slice_set}, lemmas.{Bool.{cases_eq, cases_lt, eq-eqb, ne_eqb}, List.{append-nil, reverse-append, reverse-reverse}}}
use Rattle.std.proofs.lemmas.{List.{length-map, length-set, get_or_past, get_or-set_same, get_or-set_other, Elements.filter-append}, Option.slice_get-get_or}
use Rattle.std.specs.{Prelude.{filter, slice_get, slice_index_or}, List.AllByRecursion}
use Rattle.event_log.specs.{declared.{entries.Entry.Entry, ids.{CpuId.CpuId, Tid.Tid}}, Runs.is_closed, Traces.IsInterleaving}
use Rattle.{thread_blocks.specs.Queues.is_in, guest.specs.{Calls.{IsProgramsCalls, HasEnded}, State.State}, layer_traits.specs.declared.calls.Call.Call}
use Rattle.layer_traits.specs.{declared.{calls.Effect.Effect, call_states.CallState.CallState}, Layers.BufferLaw.{UnderWay, begun_of, call_state_of}}
use Rattle.{layer_traits.{specs.Threads.{OnePlace.cpu_at, Places.{Stands, Step}}, proofs.EffectRunLemmas.count_reversed}, cpu.specs.declared.guests.Guest.Guest}
use Rattle.cpu.specs.{declared.guests.GuestStage.{GuestStage, TheVariants.{Idle, Begun, Done, Ended}}, Guests.{HasComeIn, is_ended}, Cpus.{IsCpu, IsOfHome}}
use Rattle.cpu.{specs.{Cpus.{guest_at, of_cpu, of_thread}, Claims.{CpuView, Keeps, listed}}, proofs.ListFacts.ListReads.{all_reversed, listed_there, there_is}}

-- what a test selects from a reversed list
pub filter_reversed : {X : Type 0} (p : X → Bool) (xs : List X) → filter p (reverse xs) ≡ reverse (filter p xs)
filter_reversed p [] = refl
filter_reversed p (x ∷ xs) =
    ap (λ l. filter p l) (reverse-append (x ∷ []) xs) ∙ filter-append p (reverse xs) (x ∷ []) ∙ ap (λ l. l ++ filter p (x ∷ [])) (filter_reversed p xs)
    ∙ go (p x) refl
  where
    go : (b : Bool) → p x ≡ b → reverse (filter p xs) ++ filter p (x ∷ []) ≡ reverse (filter p (x ∷ xs))
    go true is = rw is (sym (reverse-append (x ∷ []) (filter p xs)))
    go false is = rw is (append-nil (reverse (filter p xs)))

-- What is closed.

-- a buffer is reported closed exactly if the effects have closed it, in their order
pub closed_by_order : (history : List Entry) (n b : ℕ) → b < n → slice_index_or (listed (is_closed history) 0 n) b false ≡ is_closed (reverse history) b
closed_by_order history n b within = grind (arith, listed_there, count_reversed)

-- The interleaving.

-- a CPU's entries after one more
cpu_first : (e : Entry) (es : List Entry) → of_cpu (cpu_at e.cpu.0) (e ∷ es) ≡ e ∷ of_cpu (cpu_at e.cpu.0) es
cpu_first e es = let same : (e.cpu.0 == e.cpu.0) ≡ true = eq-eqb e.cpu.0 e.cpu.0 refl in rw same refl

-- entries whose projection on each CPU is the CPU's trace are an order of the traces
pub order_interleaves : (es : List Entry) (traces : List (List Entry)) → ((k : ℕ) → k < length traces → slice_index_or traces k [] ≡ of_cpu (cpu_at k) es)
    → AllByRecursion (λ e. e.cpu.0 < length traces) es → IsInterleaving traces es
order_interleaves [] traces each known = grind (arith, cases_lt, get_or_past)
order_interleaves (e ∷ es) traces each known = (
  e.cpu.0,
  of_cpu (cpu_at e.cpu.0) es,
  slice_get-get_or traces e.cpu.0 [] known.0 ∙ ap (λ (l : List Entry). Some l) (each e.cpu.0 known.0 ∙ cpu_first e es),
  order_interleaves es (slice_set traces e.cpu.0 (of_cpu (cpu_at e.cpu.0) es)) (λ k within. go k (omega (arith, within, same)) (cases_eq k e.cpu.0))
      (subst (λ (n : ℕ). AllByRecursion (λ x. x.cpu.0 < n) es) (sym same) known.1),
)
  where
    same : length (slice_set traces e.cpu.0 (of_cpu (cpu_at e.cpu.0) es)) ≡ length traces
    same = length-set traces e.cpu.0 (of_cpu (cpu_at e.cpu.0) es)

    go : (k : ℕ) → k < length traces → (k ≡ e.cpu.0) ⊎ (k ≡ e.cpu.0 → ⊥)
        → slice_index_or (slice_set traces e.cpu.0 (of_cpu (cpu_at e.cpu.0) es)) k [] ≡ of_cpu (cpu_at k) es
    go k within either = grind (arith, get_or-set_same, get_or-set_other, ne_eqb)

-- What is shown of each CPU.

-- a CPU that is shown so is one of which what always holds is true
pub record Has (homes : List CpuId) (buffers : ℕ) (history : List Entry) (moves : List Step) (k : ℕ) (p : CpuView) : Type 0 where
  pub call_states : List CallState
  pub under_way : Option UnderWay
  pub capacity : ℕ
  pub is : IsCpu homes buffers history p.local call_states under_way (cpu_at k) p.guests p.trace p.limit capacity
  pub stands : Stands homes (cpu_at k) moves p.local

-- a guest keeps to its program
keeps_by : (g : Guest) (told_ended : Bool) (es : List Entry) (begun : Option Call) (effect : Option Effect)
    → HasComeIn g.stage g.program g.thread es begun effect → (told_ended ≡ true → is_ended g.stage ≡ true) → Keeps g told_ended (reverse es)
keeps_by g told_ended es begun effect follows over = go g.stage refl follows
  where
    turned : (s : State) → IsProgramsCalls g.program es s → IsProgramsCalls g.program (reverse (reverse es)) s
    turned s calls = subst (λ (l : List Entry). IsProgramsCalls g.program l s) (sym (reverse-reverse es)) calls

    runs_on : (stage : GuestStage) → g.stage ≡ stage → is_ended stage ≡ false → is_ended g.stage ≡ true → HasEnded g.program g.thread
    runs_on stage at lives ends = let same : is_ended g.stage ≡ is_ended stage = ap is_ended at in absurd (cc (same, lives, ends))

    stood : (begun2 : Option Call) × (effect2 : Option Effect) × HasComeIn g.stage g.program g.thread (reverse (reverse es)) begun2 effect2
    stood = (begun, effect, subst (λ (l : List Entry). HasComeIn g.stage g.program g.thread l begun effect) (sym (reverse-reverse es)) follows)

    go : (stage : GuestStage) → g.stage ≡ stage → HasComeIn stage g.program g.thread es begun effect → Keeps g told_ended (reverse es)
    go Idle at f = record { calls = (g.thread, turned g.thread f.1); ends = runs_on Idle at refl; stands = stood; over = over }
    go Begun at f = record { calls = (g.thread, turned g.thread f.4); ends = runs_on Begun at refl; stands = stood; over = over }
    go Done at f = record { calls = (_, turned _ f.6); ends = runs_on Done at refl; stands = stood; over = over }
    go Ended at f = record { calls = (g.thread, turned g.thread f.1); ends = λ ends. f.2; stands = stood; over = over }

module _ (homes : List CpuId) (buffers : ℕ) (history : List Entry) (moves : List Step) where
  pub follow_programs : (k : ℕ) (p : CpuView) → Has homes buffers history moves k p → (t : Tid) (g : Guest) → guest_at p.guests t.0 ≡ Some g
      → Keeps g (is_in t p.local.ended) (of_thread t.0 p.trace)
  follow_programs k p has t g at =
      let same = ap (λ (l : List Entry). of_thread t.0 l) has.is.kept ∙ filter_reversed (λ (e : Entry). e.thread.0 == t.0) (of_cpu (cpu_at k) history) in
      subst (λ (l : List Entry). Keeps g (is_in t p.local.ended) l) (sym same)
      (keeps_by g (is_in t p.local.ended) (of_thread t.0 (of_cpu (cpu_at k) history)) (begun_of (call_state_of has.call_states t))
      (call_state_of has.call_states t).effect (has.is.follow t g at).1 (λ ended. has.is.over t ended g at))

  pub stay_home : (k : ℕ) (p : CpuView) → Has homes buffers history moves k p → AllByRecursion (IsOfHome homes (cpu_at k)) p.trace
  stay_home k p has = grind (arith, all_reversed)

  -- the effects, oldest first, are an order of the traces
  pub traces_interleaved : (cpus : List CpuView) → ((k : ℕ) (p : CpuView) → slice_get cpus k ≡ Some p → Has homes buffers history moves k p)
      → AllByRecursion (λ e. e.cpu.0 < length cpus) history → IsInterleaving (map (λ p. p.trace) cpus) (reverse history)
  traces_interleaved cpus each known =
      let count : length (map (λ (p : CpuView). p.trace) cpus) ≡ length cpus = length-map cpus (λ (p : CpuView). p.trace) in
      order_interleaves (reverse history) (map (λ (p : CpuView). p.trace) cpus) (λ k within. trace_at k (omega (arith, count, within)))
      (subst (λ (n : ℕ). AllByRecursion (λ x. x.cpu.0 < n) (reverse history)) (sym count) (all_reversed (λ (x : Entry). x.cpu.0 < length cpus) history known))
    where
      trace_at : (k : ℕ) → k < length cpus → slice_index_or (map (λ (p : CpuView). p.trace) cpus) k [] ≡ of_cpu (cpu_at k) (reverse history)
      trace_at k within =
          let there = there_is cpus k within in
          trace_of cpus k there.0 there.1 ∙ (each k there.0 there.1).is.kept ∙ sym (filter_reversed (λ (e : Entry). e.cpu.0 == k) history)
        where
          trace_of : (ps : List CpuView) (j : ℕ) (p : CpuView) → slice_get ps j ≡ Some p → slice_index_or (map (λ (q : CpuView). q.trace) ps) j [] ≡ p.trace
          trace_of [] j p at = absurd cc
          trace_of (q ∷ ps) zero p at = let same : q ≡ p = cc in ap (λ (x : CpuView). x.trace) same
          trace_of (q ∷ ps) (suc j) p at = trace_of ps j p at
