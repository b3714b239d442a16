-- At each front of a list of actions each CPU's trace is its effects so far.
use Rattle.std.proofs.Common.{◌≡◌, ℕ, ◌+◌, ◌<◌, ◌==◌, Bool, List, [], ◌∷◌, ◌++◌, length, map, reverse, Option, Some, None, option_map, option_to_list}
use Rattle.std.proofs.{Common.{append_assoc, if◌then◌else◌, refl, ap, sym, ◌∙◌, subst, arith}, lemmas.List.{Elements.filter-append, length-reverse}}
use Rattle.std.proofs.lemmas.List.{reverse-append}
use Rattle.event_log.specs.declared.{entries.Entry.Entry, ids.{BufId.BufId, CpuId.CpuId, LockId.{LockId, TheVariants.{Pending, Buffer as AtBuffer}}, Tid.Tid}}
use Rattle.event_log.specs.{Actions.{Action, Take, Try, Give, renamed, cpu_of_action}, History.{same_cpu, own_events}, Sections.sections_in}
use Rattle.{event_log.proofs.Foreign.own_append, layer_traits.specs.declared.locked.{QLockCall.TheVariants.Inside, Side.{Side, TheVariants.Receivers}}}
use Rattle.layer_traits.specs.declared.{locked.Side.TheVariants.Senders, conditions.CvEdit.TheVariants.Edit, buffer_edits.BufferEdit.BufferEdit}
use Rattle.layer_traits.specs.declared.{buffer_edits.BufferEdit.TheVariants.{TryPut, TryTake}, queue_edits.QueueEdit.TheVariants.{Push, TakeAll, Above}}
use Rattle.layer_traits.specs.{Views.Acted.guarded, Blocks.{BufferBlocks.is_next, BufferEffects.{effect_of, effect_on, opening_locks, drawn}}}
use Rattle.layer_traits.specs.Blocks.{BufferProtocol.{BufferSection, BufferLock, buffer_rules, buffer_lock_at}, QueueBlocks.{StartsWell, above_of, inner}}
use Rattle.layer_traits.specs.{Blocks.QueueRules.AreProper, Layers.{Conditions.CvCall, Queues.{buffer_guarded, buffer_sections, event_of}, QLocking.lock_after}}
use Rattle.{layer_traits.{specs.Protocols.Protocol.section, proofs.{ActedLemmas.lock_is, PlanRenaming.map-append}}, cpu.specs.Cpus.of_cpu}
use Rattle.cpu.specs.{Table.{Setups.{SystemConfig, opening as table_opening}, Steps.block_at}, Tower.{Composed.named, Views.{TowerBlock, TowerName, name_of}}}
use Rattle.cpu.{specs.{Tower.Views.view, Wakeups.Lost.IsWorked}, proofs.{StepTable.PartsOfTable.block_read, WholeSystems.RealTime.comes_before_more}}
use Rattle.{cpu.proofs.Wakeups.CpusByTable.worked_fair, cpu_workers.{specs.{Prefixes.IsActionPrefix, Orders.{IsTraceOf, effects_of}}, proofs.OneOrder.act_adds}}
use Rattle.cpu_workers.proofs.{OneOrder.prefixes_keep_order, TableTraces.{FrontOf, front_of, grown, total}, ThreadsFollow.threads_follow}
use Rattle.fifo_buffer.specs.Laws.Tallies.{effect_position}
use Rattle.layer_traits.specs.declared.queue_edits.QueueBlock.TheVariants as block

-- An effect occurs exactly if the table's block allows it.

by_turn : (lets : Bool) (e : Entry) → length (option_to_list (if lets then Some e else None)) ≡ (if lets then 1 else 0)
by_turn lets e = grind arith

effect_grown : (cpu : CpuId) (b : BufId) (call : CvCall BufferEdit) (position : Side → Tid → ℕ) (x : Option TowerBlock)
    → length (option_to_list (effect_on cpu b call position (above_of x))) ≡ grown (name_of (Above call)) (option_map view x)
effect_grown cpu b (Inside (Edit (TryPut t m))) position (Some (block.Above lock)) = by_turn (is_next Senders t lock.above) _
effect_grown cpu b (Inside (Edit (TryTake t))) position (Some (block.Above lock)) = by_turn (is_next Receivers t lock.above) _
effect_grown cpu b call position x = grind arith

module _ (setup : SystemConfig) (opening : LockId → Option TowerBlock) (starts : StartsWell opening) (locks : inner opening ≡ opening_locks setup.caps)
    (opens : (b : BufId) → option_map view (opening (AtBuffer b)) ≡ table_opening setup (AtBuffer b)) where
  abbrev sections_before : List (Action TowerName) → List BufferSection
  sections_before past = buffer_sections (map event_of (sections_in past))

  -- the effect of a section occurs if the table's block allows it, since that is the view of the
  -- layers' block
  give_grown : (cpu : CpuId) (lock : LockId) (call : CvCall BufferEdit) (past : List (Action TowerName))
      → AreProper (sections_in (Give cpu lock (Above call) ∷ past))
      → length (option_to_list (effect_of (opening_locks setup.caps) (sections_before past) (section cpu (AtBuffer (buffer_guarded lock)) call)))
      ≡ grown (name_of (Above call)) (block_at setup lock (named past))
  give_grown cpu (Pending d) call past proper = absurd (cc proper.0)
  give_grown cpu (AtBuffer b) call past proper =
      let of = λ (o : Option BufferLock). length (option_to_list (effect_on cpu b call (λ side t. drawn (opening_locks setup.caps) (AtBuffer b) side t
      (sections_before past)) o)) in
      ap of (ap (λ l. lock_after buffer_rules l (AtBuffer b) (sections_before past)) (sym locks)
      ∙ lock_is opening past starts proper.1 (map event_of (sections_in past)) refl b) ∙ effect_grown cpu b call _ (guarded opening past (AtBuffer b))
      ∙ ap (grown (name_of (Above call))) (sym (block_read setup opening past (AtBuffer b) (opens b)))

  module _ (c : CpuId) where
    with_effect : (o : Option Entry) (cpu : CpuId) (es : List Entry) → ((e : Entry) → o ≡ Some e → e.cpu ≡ cpu)
        → length (of_cpu c (option_to_list o ++ es)) ≡ (if same_cpu cpu c then length (option_to_list o) + length (of_cpu c es) else length (of_cpu c es))
    with_effect None cpu es its = grind arith
    with_effect (Some e) cpu es its =
        subst (λ (d : CpuId). length (of_cpu c (e ∷ es)) ≡ (if same_cpu d c then 1 + length (of_cpu c es) else length (of_cpu c es))) (its e refl)
        (grind arith)

    -- a CPU has as many effects in a list as the table's trace has entries
    pub effects_so : (acts : List (Action TowerName)) → AreProper (sections_in acts)
        → length (of_cpu c (effects_of setup.caps acts)) ≡ total setup c (named acts)
    effects_so [] proper = refl
    effects_so (Take cpu lock ∷ past) proper = grind (arith, effects_so past proper)
    effects_so (Try cpu lock hit ∷ past) proper = grind (arith, effects_so past proper)
    effects_so (Give cpu lock (Push t) ∷ past) proper = grind (arith, effects_so past proper.1)
    effects_so (Give cpu lock TakeAll ∷ past) proper = grind (arith, effects_so past proper.1)
    effects_so (Give cpu lock (Above call) ∷ past) proper =
        let b = buffer_guarded lock in
        let effect = effect_of (opening_locks setup.caps) (sections_before past) (section cpu (AtBuffer b) call) in
        let its = λ (e : Entry) (at : effect ≡ Some e). (effect_position cpu b call (λ side t. drawn (opening_locks setup.caps) (AtBuffer b) side t
        (sections_before past)) (buffer_lock_at (opening_locks setup.caps) (sections_before past) (AtBuffer b)) e at).0 in
        with_effect effect cpu (effects_of setup.caps past) its
        ∙ (λ i. if same_cpu cpu c then give_grown cpu lock call past proper i + effects_so past proper.1 i else effects_so past proper.1 i)

-- A front of the list.

-- its sections are proper too
pub proper_before : (later earlier : List (Action TowerName)) → AreProper (sections_in (later ++ earlier)) → AreProper (sections_in earlier)
proper_before [] earlier proper = proper
proper_before (Take cpu lock ∷ later) earlier proper = proper_before later earlier proper
proper_before (Try cpu lock hit ∷ later) earlier proper = proper_before later earlier proper
proper_before (Give cpu lock name ∷ later) earlier proper = proper_before later earlier proper.1

-- lists that begin alike
same_front : {X : Type 0} (xs ys us vs : List X) → xs ++ us ≡ ys ++ vs → length xs ≡ length ys → xs ≡ ys
same_front [] [] us vs is long = refl
same_front [] (y ∷ ys) us vs is long = absurd (omega (arith, long))
same_front (x ∷ xs) [] us vs is long = absurd (omega (arith, long))
same_front (x ∷ xs) (y ∷ ys) us vs is long =
    let first : x ≡ y = cc is in
    let rest = same_front xs ys us vs (cc is) (omega (arith, long)) in
    λ i. first i ∷ rest i

-- later effects are at the head of the list
effects_since_front : (caps : List ℕ) (later earlier : List (Action TowerName))
    → (more : List Entry) × (effects_of caps (later ++ earlier) ≡ more ++ effects_of caps earlier)
effects_since_front caps [] earlier = ([], refl)
effects_since_front caps (a ∷ later) earlier =
    let one = act_adds caps a (later ++ earlier) in
    let before = effects_since_front caps later earlier in (
      option_to_list one.effect ++ before.0,
      one.is ∙ ap (λ l. option_to_list one.effect ++ l) before.1 ∙ sym (append_assoc (option_to_list one.effect) before.0 (effects_of caps earlier)),
    )

-- a trace that extends to the effects of the whole list, and has as many entries as the CPU has
-- effects at the prefix, has exactly these
trace_at_front : (caps : List ℕ) (c : CpuId) (later earlier : List (Action TowerName)) (trace more : List Entry)
    → trace ++ more ≡ reverse (of_cpu c (effects_of caps (later ++ earlier))) → length trace ≡ length (of_cpu c (effects_of caps earlier))
    → IsTraceOf c caps earlier trace
trace_at_front caps c later earlier trace more is long =
    let since = effects_since_front caps later earlier in
    same_front trace (reverse (of_cpu c (effects_of caps earlier))) more (reverse (of_cpu c since.0))
    (is ∙ ap reverse (ap (of_cpu c) since.1 ∙ filter-append (λ (e : Entry). e.cpu.0 == c.0) since.0 (effects_of caps earlier))
    ∙ reverse-append (of_cpu c since.0) (of_cpu c (effects_of caps earlier))) (long ∙ sym (length-reverse (of_cpu c (effects_of caps earlier))))

rest_none : {X : Type 0} (xs ys : List X) → xs ++ ys ≡ [] → ys ≡ []
rest_none [] ys none = none
rest_none (x ∷ xs) ys none = absurd (cc none)

-- CPUs that each worked along one list, whose traces are their effects in it, are linearizable in
-- the order of its steps
module _ (setup : SystemConfig) (acts : List (Action TowerName)) (worked : IsWorked setup (named acts))
    (ends : (c : CpuId) (below : c.0 < setup.cpus) → IsTraceOf c setup.caps acts (worked.ran c below).last.trace)
    (many : (c : CpuId) (later earlier : List (Action TowerName)) → acts ≡ later ++ earlier
    → length (of_cpu c (effects_of setup.caps earlier)) ≡ total setup c (named earlier)) where
  module _ (later earlier : List (Action TowerName)) (is : acts ≡ later ++ earlier) where
    named_is : named acts ≡ named later ++ named earlier
    named_is = ap named is ∙ map-append (renamed name_of) later earlier

    front : (c : CpuId) (below : c.0 < setup.cpus) → FrontOf setup c (worked.ran c below).last (named earlier)
    front c below =
        let ran = worked.ran c below in
        front_of setup c ran.count ran.last (named acts) ran.steps (worked_fair setup (named acts) worked) (named later) (named earlier) named_is

    at_front : IsWorked setup (named earlier)
    at_front = record {
      ran = λ c below. let there = front c below in record { count = there.count; last = there.last; steps = there.along };
      rest = λ c beyond. rest_none (own_events cpu_of_action c (named later)) (own_events cpu_of_action c (named earlier))
          (sym (own_append cpu_of_action c (named later) (named earlier)) ∙ sym (ap (own_events cpu_of_action c) named_is) ∙ worked.rest c beyond);
    }

    pub is_front : IsActionPrefix setup later earlier
    unfolding at_front
    is_front =
        let on = prefixes_keep_order setup.caps later earlier in record {
          worked = at_front;
          keeps = λ c below.
              let there = front c below in
              trace_at_front setup.caps c later earlier there.last.trace there.grew.0
              (sym there.grew.1 ∙ ends c below ∙ ap (λ l. reverse (of_cpu c (effects_of setup.caps l))) is)
              (there.counted ∙ sym (many c later earlier is));
          follow = λ c below t. let there = front c below in threads_follow setup c there.count there.last (named earlier) there.along t;
          goes_on = on;
          before = comes_before_more (reverse (effects_of setup.caps earlier)) (reverse (effects_of setup.caps (later ++ earlier))) on.more on.is;
        }
