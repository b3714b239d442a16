-- The traces of all CPUs are an order of the effects of one list of actions, if each CPU has seen a
-- prefix of it with all of the CPU's actions.
use Rattle.std.proofs.Common.{◌≡◌, ℕ, suc, ◌*◌, ◌<◌, ◌≤◌, ◌==◌, ◌^◌, false, List, [], ◌∷◌, ◌++◌, length, map, All, reverse, Option, Some, None, option_to_list}
use Rattle.std.proofs.{Common.{append_assoc, slice_index_or, refl, ap, sym, ◌∙◌, subst, arith}, lemmas.{Bool.cases_lt, List.{append-nil, length-reverse}}}
use Rattle.std.proofs.lemmas.{List.{reverse-append, Sums.{sum_by-cons, sum_by-le, sum_by-set}}, Option.{get_or_from_slice_get, slice_get_within}}
use Rattle.std.specs.{List.{AllByRecursion, sum_by}, Prelude.slice_set}
use Rattle.event_log.specs.{declared.{entries.Entry.Entry, ids.{CpuId.CpuId, LockId.TheVariants.Buffer}}, Actions.{Action, Take, Try, Give, cpu_of_action}}
use Rattle.event_log.specs.{History.{AreOthers, IsLawful, own_events, same_cpu}, Runs.IsLegalHistory, Sections.sections_in, Traces.IsInterleaving}
use Rattle.{event_log.proofs.Same.same_cpu_self, layer_traits.specs.declared.queue_edits.QueueEdit.TheVariants.{Push, TakeAll, Above}}
use Rattle.layer_traits.specs.Blocks.{BufferEffects.{MayTakeEffect, contents_of, drawn, effect_of, opening_locks}, BufferProtocol.BufferSection}
use Rattle.layer_traits.specs.{Blocks.BufferProtocol.buffer_lock_at, Threads.OnePlace.cpu_at, Protocols.Protocol.section, Layers.Queues.buffer_guarded}
use Rattle.layer_traits.{specs.Layers.Queues.{buffer_sections, event_of}, proofs.EffectRunLemmas.effects_are_run}
use Rattle.{fifo_buffer.specs.Laws.Tallies.effect_position, cpu.specs.{Cpus.of_cpu, Tower.Views.TowerName, Linear.OrderGrows}}
use Rattle.cpu.proofs.{WholeSystems.{Moments.order_stays, OneOrder.{filter_reversed, order_interleaves}}, ListFacts.ListReads.all_reversed}
use Rattle.cpu_workers.specs.{Laws.OrderGoesOn, Orders.{IsTraceOf, effects_of}}

-- An action adds at most one effect, of its CPU.

pub record Adds (caps : List ℕ) (a : Action TowerName) (past : List (Action TowerName)) : Type 0 where
  pub effect : Option Entry
  pub is : effects_of caps (a ∷ past) ≡ option_to_list effect ++ effects_of caps past
  pub its : (e : Entry) → effect ≡ Some e → e.cpu ≡ cpu_of_action a

module _ (caps : List ℕ) where
  adds_none : (a : Action TowerName) (past : List (Action TowerName)) → effects_of caps (a ∷ past) ≡ effects_of caps past → Adds caps a past
  adds_none a past same = record { effect = None; is = same; its = λ e at. absurd (cc at) }

  pub act_adds : (a : Action TowerName) (past : List (Action TowerName)) → Adds caps a past
  act_adds (Take cpu lock) past = adds_none (Take cpu lock) past refl
  act_adds (Try cpu lock hit) past = adds_none (Try cpu lock hit) past refl
  act_adds (Give cpu lock (Push t)) past = adds_none (Give cpu lock (Push t)) past refl
  act_adds (Give cpu lock TakeAll) past = adds_none (Give cpu lock TakeAll) past refl
  act_adds (Give cpu lock (Above call)) past =
      let before : List BufferSection = buffer_sections (map event_of (sections_in past)) in
      let b = buffer_guarded lock in
      record {
        effect = effect_of (opening_locks caps) before (section cpu (Buffer b) call);
        is = refl;
        its = λ e at. (effect_position cpu b call (λ side t. drawn (opening_locks caps) (Buffer b) side t before)
            (buffer_lock_at (opening_locks caps) before (Buffer b)) e at).0;
      }

  -- therefore the order of the effects extends
  pub order_goes_on : (a : Action TowerName) (past : List (Action TowerName))
      → OrderGrows (cpu_of_action a) (reverse (effects_of caps past)) (reverse (effects_of caps (a ∷ past)))
  order_goes_on a past = let one = act_adds a past in go one.effect one.is one.its
    where
      go : (o : Option Entry) → effects_of caps (a ∷ past) ≡ option_to_list o ++ effects_of caps past → ((e : Entry) → o ≡ Some e → e.cpu ≡ cpu_of_action a)
          → OrderGrows (cpu_of_action a) (reverse (effects_of caps past)) (reverse (effects_of caps (a ∷ past)))
      go None is its = order_stays (cpu_of_action a) (reverse (effects_of caps past)) (reverse (effects_of caps (a ∷ past)))
          (ap (λ (es : List Entry). reverse es) is)
      go (Some e) is its = record {
        more = e ∷ [];
        is = ap (λ (es : List Entry). reverse es) is ∙ reverse-append (e ∷ []) (effects_of caps past);
        few = omega arith;
        local = (its e refl, tt);
      }

  -- what other CPUs do leaves a CPU's effects
  of_others : (c : CpuId) (o : Option Entry) (es : List Entry) → ((e : Entry) → o ≡ Some e → same_cpu e.cpu c ≡ false)
      → of_cpu c (option_to_list o ++ es) ≡ of_cpu c es
  of_others c o es theirs = grind (arith, theirs)

  pub effects_since : (c : CpuId) (more past : List (Action TowerName)) → AreOthers cpu_of_action c more
      → of_cpu c (effects_of caps (more ++ past)) ≡ of_cpu c (effects_of caps past)
  effects_since c [] past others = refl
  effects_since c (a ∷ more) past others =
      let one = act_adds a (more ++ past) in
      ap (of_cpu c) one.is ∙ of_others c one.effect (effects_of caps (more ++ past))
      (λ e at. subst (λ (d : CpuId). same_cpu d c ≡ false) (sym (one.its e at)) others.0)
      ∙ effects_since c more past others.1

  -- from a front to a later one
  of_both : (c : CpuId) (es fs : List Entry) → of_cpu c es ≡ [] → of_cpu c fs ≡ [] → of_cpu c (es ++ fs) ≡ []
  of_both c [] fs none nor = nor
  of_both c (e ∷ es) fs none nor = grind (arith, none, nor, of_both c es fs)

  pub prefixes_keep_order : (later earlier : List (Action TowerName)) → OrderGoesOn caps later earlier
  prefixes_keep_order [] earlier = record { more = []; is = sym (append-nil (reverse (effects_of caps earlier))); local = λ c others. refl }
  prefixes_keep_order (a ∷ later) earlier =
      let before = prefixes_keep_order later earlier in
      let one = act_adds a (later ++ earlier) in
      record {
        more = before.more ++ option_to_list one.effect;
        is = ap (λ (es : List Entry). reverse es) one.is ∙ behind one.effect (effects_of caps (later ++ earlier))
            ∙ ap (λ (es : List Entry). es ++ option_to_list one.effect) before.is
            ∙ append_assoc (reverse (effects_of caps earlier)) before.more (option_to_list one.effect);
        local = λ c others. of_both c before.more (option_to_list one.effect) (before.local c others.1)
            (ap (of_cpu c) (sym (append-nil (option_to_list one.effect)))
            ∙ of_others c one.effect [] (λ e at. subst (λ (d : CpuId). same_cpu d c ≡ false) (sym (one.its e at)) others.0));
      }
    where
      behind : (o : Option Entry) (es : List Entry) → reverse (option_to_list o ++ es) ≡ reverse es ++ option_to_list o
      behind None es = sym (append-nil (reverse es))
      behind (Some e) es = reverse-append (e ∷ []) es

  -- if a CPU has seen a prefix of the list, and all of its actions, its trace is its effects in the
  -- whole list
  pub trace_in : (c : CpuId) (more past log : List (Action TowerName)) (trace : List Entry) → log ≡ more ++ past → AreOthers cpu_of_action c more
      → IsTraceOf c caps past trace → IsTraceOf c caps log trace
  trace_in c more past log trace is others of =
      of ∙ ap (λ (es : List Entry). reverse es) (sym (ap (λ l. of_cpu c (effects_of caps l)) is ∙ effects_since c more past others))

  -- each effect is of a CPU that acted
  effects_known : (n : ℕ) (log : List (Action TowerName)) → AllByRecursion (λ a. (cpu_of_action a).0 < n) log
      → AllByRecursion (λ e. e.cpu.0 < n) (effects_of caps log)
  effects_known n [] known = tt
  effects_known n (a ∷ past) known =
      let one = act_adds a past in
      rw one.is (all_of n one.effect (effects_of caps past) (λ e at. rw (one.its e at) known.0) (effects_known n past known.1))
    where
      all_of : (m : ℕ) (o : Option Entry) (es : List Entry) → ((e : Entry) → o ≡ Some e → e.cpu.0 < m) → AllByRecursion (λ e. e.cpu.0 < m) es
          → AllByRecursion (λ e. e.cpu.0 < m) (option_to_list o ++ es)
      all_of m None es within all = all
      all_of m (Some e) es within all = (within e refl, all)

-- a list without events of this CPU
own_first : {E : Type 0} (by : E → CpuId) (c : CpuId) (e : E) (es : List E) → own_events by c (e ∷ es) ≡ []
    → (same_cpu (by e) c ≡ false) × (own_events by c es ≡ [])
own_first by c e es none = grind arith

pub none_own : {E : Type 0} (by : E → CpuId) (c : CpuId) (list : List E) → own_events by c list ≡ [] → AreOthers by c list
none_own by c [] none = tt
none_own by c (e ∷ list) none = let first = own_first by c e list none in (first.0, none_own by c list first.1)

-- and one without those of the CPUs from n on
pub all_within : {E : Type 0} (by : E → CpuId) (n : ℕ) (es : List E) → ((c : CpuId) → n ≤ c.0 → own_events by c es ≡ []) → AllByRecursion (λ e. (by e).0 < n) es
all_within by n [] rest = tt
all_within by n (e ∷ es) rest = (
  grind (arith, cases_lt (by e).0 n, rest (by e), own_first by (by e) e es, same_cpu_self (by e)),
  all_within by n es (λ c beyond. (own_first by c e es (rest c beyond)).1),
)

all_used : (traces : List (List Entry)) → ((k : ℕ) → slice_index_or traces k [] ≡ []) → sum_by length traces ≡ 0
all_used [] used = refl
all_used (trace ∷ traces) used = sum_by-cons length trace traces ∙ omega (arith, ap length (used 0), all_used traces (λ k. used (suc k)))

-- an order has as many entries as the traces together
pub order_length : (traces : List (List Entry)) (order : List Entry) → IsInterleaving traces order → length order ≡ sum_by length traces
order_length traces [] keeps = sym (all_used traces keeps)
order_length traces (e ∷ order) keeps =
    let set = sum_by-set length traces keeps.0 keeps.1 [] in
    grind (arith, order_length (slice_set traces keeps.0 keeps.1) order keeps.3, set, slice_get_within, get_or_from_slice_get)

-- The order.

-- the traces have one order, that of these effects, which is a run and ends in these contents
pub record HasOrder (caps : List ℕ) (traces : List (List Entry)) (effects : List Entry) (contents : List (List _)) : Type 0 where
  pub order : List Entry
  pub is : order ≡ reverse effects
  pub keeps : IsInterleaving traces order
  pub run : IsLegalHistory caps order contents

pub linearization : (caps : List ℕ) (log : List (Action TowerName)) (traces : List (List Entry)) (limit : ℕ)
    → IsLawful (MayTakeEffect caps) (effects_of caps log) → ((c : CpuId) → length traces ≤ c.0 → own_events cpu_of_action c log ≡ [])
    → ((k : ℕ) → k < length traces → IsTraceOf (cpu_at k) caps log (slice_index_or traces k [])) → All (λ t. length t ≤ limit) traces
    → length traces * limit < 2 ^ 64 → HasOrder caps traces (effects_of caps log) (contents_of caps (effects_of caps log))
linearization caps log traces limit lawful rest each room small =
    let es = effects_of caps log in
    let keeps = order_interleaves (reverse es) traces (λ k within. each k within ∙ sym (filter_reversed (λ (e : Entry). e.cpu.0 == k) es))
    (all_reversed (λ (e : Entry). e.cpu.0 < length traces) es (effects_known caps (length traces) log (all_within cpu_of_action (length traces) log rest))) in
    record {
      order = reverse es;
      is = refl;
      keeps = keeps;
      run = effects_are_run caps es lawful
          (omega (arith, length-reverse es, order_length traces (reverse es) keeps, sum_by-le length limit traces room, small));
    }
