-- The calls of a run of the step table have one order: the effects of its log, which are what the
-- steps append to the traces.
use Rattle.std.proofs.Common.{◌≡◌, ◌⊎◌, inl, inr, ℕ, suc, ◌+◌, ◌<◌, ◌≤◌, ◌==◌, ◌^◌, List, [], ◌∷◌, ◌++◌, All, drop, length, reverse, slice_get, Option, Some}
use Rattle.std.proofs.{Common.{None, option_to_list, refl, ap, sym, ◌∙◌, subst, arith, append_assoc}, lemmas.List.{append-nil, length-append, reverse-append}}
use Rattle.std.specs.List.{AllByRecursion}
use Rattle.event_log.specs.{declared.{entries.Entry.Entry, ids.CpuId.CpuId}, Actions.{Action, Take, Try, Give, cpu_of_action}, Sections.{Section, sections_in}}
use Rattle.{event_log.specs.Runs.IsLegalHistory, layer_traits.{specs.Blocks.BufferEffects.contents_of, proofs.EffectRunLemmas.effects_are_run}}
use Rattle.cpu.specs.{Cpus.of_cpu, Sound.after_steps, Table.{Blocks.Name, Setups.{CpuLocal, SystemConfig, boot_of}, Steps.{IsReached, SystemState, boots}}}
use Rattle.cpu.specs.{Table.Steps.{cpu_numbered, cpu_step, steps_once, system_step, whole_after, whole_at_boot}, TableOrder.{HasOrder, TableHasOneOrder}}
use Rattle.cpu.{specs.{TableOrder.{order_by_steps, trace_at, trace_in}, Wakeups.Quiet.AreFew}, proofs.ListFacts.ListReads.all_reversed}
use Rattle.cpu.proofs.{WholeSystems.OneOrder.filter_reversed, Wakeups.{Lists.set_here, ReachedStates.{AllDo, StepOk, all_set, boots_at, reached_sound}}}
use Rattle.cpu.proofs.Wakeups.{ReachedStates.step_ok, SystemInv.{NextIs, SystemInv, cpu_there, next_is, reached_inv, same, went}}
use Rattle.cpu.proofs.TableOrder.{Effects.{effect_at, effects}, Kept.{Kept, all_kept}, Steps.{Told, beside_told, boot_told, effect_cpu, own_more, step_told}}

-- Lists.

drop_front : {X : Type 0} (xs ys : List X) → drop (length xs) (xs ++ ys) ≡ ys
drop_front [] ys = refl
drop_front (x ∷ xs) ys = drop_front xs ys

dropped : {X : Type 0} (xs ys zs : List X) → zs ≡ xs ++ ys → drop (length xs) zs ≡ ys
dropped xs ys zs is = ap (λ l. drop (length xs) l) is ∙ drop_front xs ys

turned : (o : Option Entry) (es : List Entry) → reverse (option_to_list o ++ es) ≡ reverse es ++ option_to_list o
turned None es = sym (append-nil (reverse es))
turned (Some e) es = reverse-append (e ∷ []) es

one_at_most : (o : Option Entry) (es : List Entry) → length (option_to_list o ++ es) ≤ length es + 1
one_at_most None es = omega arith
one_at_most (Some e) es = omega arith

all_first : (P : CpuId → Type 0) (c : CpuId) (more : List CpuId) → All P (c ∷ more) → P c
all_first P c more all = all 0 c (omega arith)

all_others : (P : CpuId → Type 0) (c : CpuId) (more : List CpuId) → All P (c ∷ more) → All P more
all_others P c more all k d below = all (suc k) d (omega (arith, below))

module _ (setup : SystemConfig) where
  -- what every CPU's trace and calls say of the log
  AllTold : SystemState → Type 0
  AllTold s = (e : CpuId) (p : CpuLocal) → slice_get s.cpus e.0 ≡ Some p → Told setup e p (sections_in s.log)

  abbrev history : SystemState → List Entry
  history s = effects setup (sections_in s.log)

  told_next : (c : CpuId) (s next : SystemState) → SystemInv setup s → AllTold s → NextIs setup c s next → AllTold next
  unfolding AllTold
  told_next c s next inv told same = told
  told_next c s next inv told (went p here) =
      let step : StepOk setup c s.log (cpu_step setup c p s.log) = step_ok setup c s.log inv.sound.fair p (inv.sound.cpus c p here) in
      all_set (λ e q. Told setup e q (sections_in ((cpu_step setup c p s.log).acts ++ s.log))) s.cpus c (cpu_step setup c p s.log).next
      (step_told setup c s.log p (told c p here) (inv.sound.cpus c p here) (inv.fine c p here))
      (λ e q off at. beside_told setup e q c s.log (cpu_step setup c p s.log).acts off step.does step.fair (told e q at))

  told_reached : (room : ℕ) (s : SystemState) → IsReached setup room s → AllTold s
  unfolding AllTold
  told_reached room s boots = λ e p is.
      let zero_plus : 0 + e.0 ≡ e.0 = omega arith in
      let at : boot_of setup e ≡ p = ap (λ m. boot_of setup (cpu_numbered m)) (sym zero_plus) ∙ boots_at setup 0 setup.cpus e.0 p is in
      subst (λ q. Told setup e q []) at (boot_told setup e)
  told_reached room s (steps_once {s = before} c reached within) =
      told_next c before (system_step setup c before).next (reached_inv setup room before reached) (told_reached room before reached) (next_is setup c before)

  -- One step.

  -- a step has one effect or none: it appends it to its CPU's trace
  record Stepped (c : CpuId) (s next : SystemState) : Type 0 where
    effect : Option Entry
    local : (e : Entry) → effect ≡ Some e → e.cpu ≡ c
    more : history next ≡ option_to_list effect ++ history s
    written : drop (length (trace_at c s)) (trace_at c next) ≡ option_to_list effect

  action_effect : Action Name → List (Action Name) → Option Entry
  action_effect (Take cpu lock) past = None
  action_effect (Try cpu lock hit) past = None
  action_effect (Give cpu lock name) past = effect_at setup cpu lock name (sections_in past)

  action_more : (a : Action Name) (past : List (Action Name))
      → effects setup (sections_in (a ∷ past)) ≡ option_to_list (action_effect a past) ++ effects setup (sections_in past)
  unfolding action_effect
  action_more (Take cpu lock) past = refl
  action_more (Try cpu lock hit) past = refl
  action_more (Give cpu lock name) past = refl

  action_own : (a : Action Name) (past : List (Action Name)) (e : Entry) → action_effect a past ≡ Some e → e.cpu ≡ cpu_of_action a
  unfolding action_effect
  action_own (Take cpu lock) past e is = absurd (cc is)
  action_own (Try cpu lock hit) past e is = absurd (cc is)
  action_own (Give cpu lock name) past e is = effect_cpu setup cpu lock name (sections_in past) e is

  -- the effect of a CPU's actions, of which there is one or none
  record Made (c : CpuId) (acts log : List (Action Name)) : Type 0 where
    effect : Option Entry
    local : (e : Entry) → effect ≡ Some e → e.cpu ≡ c
    more : effects setup (sections_in (acts ++ log)) ≡ option_to_list effect ++ effects setup (sections_in log)

  short : (c : CpuId) (p : CpuLocal) (log : List (Action Name))
      → ((cpu_step setup c p log).acts ≡ []) ⊎ ((a : Action Name) × ((cpu_step setup c p log).acts ≡ a ∷ []))
  short c p log = grind arith

  made : (c : CpuId) (acts log : List (Action Name)) → (acts ≡ []) ⊎ ((a : Action Name) × (acts ≡ a ∷ [])) → AllDo c acts → Made c acts log
  made c acts log (inl none) does = record {
    effect = None;
    local = λ e is. absurd (cc is);
    more = ap (λ l. effects setup (sections_in (l ++ log))) none;
  }
  made c acts log (inr one) does =
      let mine : cpu_of_action one.0 ≡ c = (subst (AllDo c) one.1 does).0 in
      record {
        effect = action_effect one.0 log;
        local = λ e is. action_own one.0 log e is ∙ mine;
        more = ap (λ l. effects setup (sections_in (l ++ log))) one.1 ∙ action_more one.0 log;
      }

  stepped : (c : CpuId) (s next : SystemState) → SystemInv setup s → AllTold s → AllTold next → NextIs setup c s next → Stepped c s next
  unfolding AllTold
  stepped c s next inv told told_then same = record {
    effect = None;
    local = λ e is. absurd (cc is);
    more = refl;
    written = dropped (trace_at c s) [] (trace_at c s) (sym (append-nil (trace_at c s)));
  }
  stepped c s next inv told told_then (went p here) =
      let step : StepOk setup c s.log (cpu_step setup c p s.log) = step_ok setup c s.log inv.sound.fair p (inv.sound.cpus c p here) in
      let there = set_here s.cpus c.0 p (cpu_step setup c p s.log).next here in
      let has = made c (cpu_step setup c p s.log).acts s.log (short c p s.log) step.does in
      let old : trace_at c s ≡ reverse (of_cpu c (history s)) = ap trace_in here ∙ (told c p here).trace in
      let new : trace_at c next ≡ reverse (of_cpu c (history next)) = ap trace_in there ∙ (told_then c (cpu_step setup c p s.log).next there).trace in
      record {
        effect = has.effect;
        local = has.local;
        more = has.more;
        written = dropped (trace_at c s) (option_to_list has.effect) (trace_at c next)
            (new ∙ ap (λ l. reverse (of_cpu c l)) has.more ∙ own_more c has.effect (history s) has.local
            ∙ ap (λ l. l ++ option_to_list has.effect) (sym old));
      }

  step_of : (room : ℕ) (c : CpuId) (s : SystemState) → c.0 < setup.cpus → IsReached setup room s → Stepped c s (system_step setup c s).next
  step_of room c s within reached =
      stepped c s (system_step setup c s).next (reached_inv setup room s reached) (told_reached room s reached)
      (told_reached room (system_step setup c s).next (steps_once c reached within)) (next_is setup c s)

  -- The steps of a schedule.

  -- what the steps leave, and the order of their calls
  record Ran (room : ℕ) (steps : List CpuId) (s : SystemState) : Type 0 where
    reached : IsReached setup room (after_steps setup steps s)
    order : reverse (history s) ++ order_by_steps setup steps s ≡ reverse (history (after_steps setup steps s))
    few : length (history (after_steps setup steps s)) ≤ length (history s) + length steps
    known : AllByRecursion (λ (e : Entry). e.cpu.0 < setup.cpus) (history (after_steps setup steps s))

  ran : (room : ℕ) (steps : List CpuId) (s : SystemState) → All (λ c. c.0 < setup.cpus) steps → IsReached setup room s
      → AllByRecursion (λ (e : Entry). e.cpu.0 < setup.cpus) (history s) → Ran room steps s
  ran room [] s known reached all = record {
    reached = reached;
    order = append-nil (reverse (history s));
    few = omega arith;
    known = all;
  }
  ran room (c ∷ more) s known reached all =
      let within : c.0 < setup.cpus = all_first (λ d. d.0 < setup.cpus) c more known in
      let next : SystemState = (system_step setup c s).next in
      let one = step_of room c s within reached in
      let all_then : AllByRecursion (λ (e : Entry). e.cpu.0 < setup.cpus) (history next) =
      subst (AllByRecursion (λ (e : Entry). e.cpu.0 < setup.cpus)) (sym one.more)
      (with_one one.effect (λ e is. subst (λ (d : CpuId). d.0 < setup.cpus) (sym (one.local e is)) within)) in
      let rest = ran room more next (all_others (λ d. d.0 < setup.cpus) c more known) (steps_once c reached within) all_then in
      let grown : length (history next) ≤ length (history s) + 1 =
      subst (λ (l : List Entry). length l ≤ length (history s) + 1) (sym one.more) (one_at_most one.effect (history s)) in
      record {
        reached = rest.reached;
        order = sym (append_assoc (reverse (history s)) (drop (length (trace_at c s)) (trace_at c next)) (order_by_steps setup more next))
            ∙ ap (λ l. (reverse (history s) ++ l) ++ order_by_steps setup more next) one.written
            ∙ ap (λ l. l ++ order_by_steps setup more next) (sym (turned one.effect (history s)) ∙ ap (λ (l : List Entry). reverse l) (sym one.more))
            ∙ rest.order;
        few = omega (arith, rest.few, grown);
        known = rest.known;
      }
    where
      with_one : (o : Option Entry) → ((e : Entry) → o ≡ Some e → e.cpu.0 < setup.cpus)
          → AllByRecursion (λ (e : Entry). e.cpu.0 < setup.cpus) (option_to_list o ++ history s)
      with_one None each = all
      with_one (Some e) each = (each e refl, all)

-- each CPU's trace is its entries in the order
pub kept_traces : (setup : SystemConfig) (room : ℕ) (steps : List CpuId) → All (λ c. c.0 < setup.cpus) steps → (c : CpuId) (p : CpuLocal)
    → slice_get (after_steps setup steps (whole_at_boot setup room)).cpus c.0 ≡ Some p
    → p.trace ≡ of_cpu c (order_by_steps setup steps (whole_at_boot setup room))
unfolding AllTold
kept_traces setup room steps known c p there =
    let boot : SystemState = whole_at_boot setup room in
    let last : SystemState = after_steps setup steps boot in
    let run = ran setup room steps boot known boots tt in
    let told = told_reached setup room last run.reached in
    (told c p there).trace ∙ sym (filter_reversed (λ (e : Entry). e.cpu.0 == c.0) (effects setup (sections_in last.log))) ∙ ap (of_cpu c) (sym run.order)

pub table_has_one_order : TableHasOneOrder
table_has_one_order setup room steps few known short =
    let boot : SystemState = whole_at_boot setup room in
    let last : SystemState = after_steps setup steps boot in
    let run = ran setup room steps boot known boots tt in
    let es : List Entry = effects setup (sections_in last.log) in
    let kept : Kept setup (sections_in last.log) = all_kept setup few last.log (reached_sound setup room last run.reached).fair in
    let inv = reached_inv setup room last run.reached in
    record {
      left = contents_of setup.caps es;
      run =
          subst (λ l. IsLegalHistory setup.caps l (contents_of setup.caps es)) (sym run.order)
          (effects_are_run setup.caps es kept.lawful (omega (arith, run.few, short)));
      holds = λ b k is. (kept.tally b k is).items;
      keeps = λ c within. let there = cpu_there setup last inv c within in ap trace_in there.1 ∙ kept_traces setup room steps known c there.0 there.1;
      known = subst (AllByRecursion (λ (e : Entry). e.cpu.0 < setup.cpus)) (sym run.order) (all_reversed (λ (e : Entry). e.cpu.0 < setup.cpus) es run.known);
    }
