-- From plans to steps: a poll that followed a line of the table is a step of it.
use Rattle.std.proofs.Common.{◌≡◌, Bool, true, false, List, [], ◌∷◌, ◌++◌, Option, Some, None, option_map, if◌then◌else◌, refl, ap, sym, ◌∙◌, subst, arith}
use Rattle.event_log.specs.{declared.ids.{CpuId.CpuId, LockId.LockId, Tid.Tid}, History.same_lock, Actions.{Action, action_in, phase, renamed}}
use Rattle.event_log.{specs.Sections.{Section, block_after, sections_in}, proofs.{Foreign.phase_others, Renaming.{next_action_renamed, others_renamed}}}
use Rattle.{event_log.proofs.Renaming.phase_renamed, layer_traits.specs.declared.steps.{Reason.Reason, Step.{TheVariants.{Stepped, Halted}, Step}}}
use Rattle.layer_traits.specs.{Polling.{Along.IsStep, Looks.Tries, Plans.{Left, Acting, Follows, at_give, is_in_section, reply}}, Layers.BufferLaw.Buffering}
use Rattle.{layer_traits.proofs.{LookLemmas.tries_renamed, PlanRenaming.{map-append, reply_viewed}}, cpu.specs.Table.Blocks.{Block, Name}}
use Rattle.cpu.specs.Table.{Edits.{edited, table_kernel}, Setups.{SystemConfig, CpuLocal, opening as table_opening, thread_at, Call as TableCall}, Steps.acting}
use Rattle.cpu.specs.Table.{Steps.{acting_on, after_reply, chosen_step, cpu_step, halted_at, halted_by, step_in}, Choice.{Alone, Choice, Goes, Halts, Ask}}
use Rattle.cpu.specs.{Table.Choice.{asked, at_call, at_hand, at_ready, choice}, Tower.Views.{TowerBlock, TowerName, answer_view, name_of, tower, view}}
use Rattle.cpu.{specs.Tower.Composed.{HaltsExactly, HandIsKnown, IsKind, named}, proofs.{ListFacts.ListReads.blocks_keep, Tower.PolledSystem.{Polled, Way}}}
use Rattle.cpu.proofs.Tower.SectionViews.{tables_agree}

-- The blocks of the locks are of their kinds.

-- a lock has no block, or one of its kind
abbrev pub IsKindIn : LockId → Option TowerBlock → Type 0
IsKindIn lock None = Unit {0}
IsKindIn lock (Some x) = IsKind lock x

pub kind_after : (opening : LockId → Option TowerBlock) (lock : LockId) → IsKindIn lock (opening lock) → (past : List (Section TowerName))
    → IsKindIn lock (block_after tower.edited opening lock past)
kind_after opening lock opens = blocks_keep (IsKindIn lock) tower.edited opening lock opens kept
  where
    kept : (e : TowerName) (o : Option TowerBlock) → IsKindIn lock o → IsKindIn lock (option_map (tower.edited e) o)
    kept e o kind = grind arith

-- a lock's block depends only on its opening block
pub opens_alike : (a b : LockId → Option Block) (lock : LockId) → a lock ≡ b lock → (past : List (Section Name))
    → block_after edited a lock past ≡ block_after edited b lock past
opens_alike a b lock same [] = same
opens_alike a b lock same (s ∷ past) = ap (λ o. if same_lock lock s.lock then option_map (edited s.edit) o else o) (opens_alike a b lock same past)

-- A line of the table is a step of it.

module _ {A : Type 0} (polled : Polled) (way : Way A polled) (got : Left Buffering A) (known : HandIsKnown polled.setup got.local)
    (follows : Follows polled.ActsFor tower polled.opening polled.c way.plan polled.old polled.new got) where
  open polled use {ActsFor, setup, opening, c, acts, opens, old, new}
  open way use {p, q, after, line, goes}

  planned : Acting ActsFor tower opening c line.lock line.name line.react old new got
  planned = subst (λ x. Follows ActsFor tower opening c x old new got) line.is follows

  abbrev past : List (Action TowerName)
  past = planned.past

  step_is : cpu_step setup c p (named past) ≡ acting_on setup c q line.lock (name_of line.name) (named past)
  step_is = goes past (ap (phase c) planned.acted.joined ∙ phase_others c planned.acted.others old (planned.acted.foreign c acts))
      ∙ ap (λ (x : Ask). acting_on setup c q x.lock x.name (named past)) line.asks

  -- the table's result is the view of the layers'
  answer_is : option_map answer_view (reply tower opening c line.lock line.name past)
      ≡ reply table_kernel (table_opening setup) c line.lock (name_of line.name) (named past)
  answer_is =
      reply_viewed tower table_kernel
      (record { name = name_of; view = view; abstract_answer = answer_view; edits = tables_agree.edits; answers = tables_agree.answers })
      opening c line.lock line.name past ∙ ap (λ o. at_give (phase c (named past)) (option_map (table_kernel.answer (name_of line.name)) o))
      (opens_alike (λ l. option_map view (opening l)) (table_opening setup) line.lock (opens line.lock line.used) (sections_in (named past)))

  next_is : after got ≡ (acting_on setup c q line.lock (name_of line.name) (named past)).next
  next_is =
      (grind (arith, kind_after opening line.lock (grind (arith, opens line.lock line.used)) (sections_in past), planned.moves))
      ∙ ap (after_reply setup c q) answer_is

  grown : named new ≡ (acting_on setup c q line.lock (name_of line.name) (named past)).acts ++ named past
  grown = ap named planned.acted.grows ∙ ap (λ a. a ∷ named past) (sym (next_action_renamed name_of c line.lock line.name past))

  abbrev Steps : List (Action Name) → Type 0
  Steps log = (after got ≡ (cpu_step setup c p log).next) × (named new ≡ (cpu_step setup c p log).acts ++ log) × (Stepped ≡ (cpu_step setup c p log).answer)

  pub line_is_step : IsStep ActsFor (cpu_step setup c) p (after got) (named old) (named new) Stepped
  line_is_step =
      let at_past : Steps (named past) = grind (arith, next_is, step_is, grown) in
      let at = subst Steps (ap named planned.acted.joined ∙ map-append (renamed name_of) planned.acted.others old) at_past in
      record {
        others = named planned.acted.others;
        foreign = λ d acts_d. others_renamed name_of d planned.acted.others (planned.acted.foreign d acts_d);
        next = at.0;
        grows = at.1;
        answers = at.2;
      }

-- A step without an action.

still_is_step : (ActsFor : CpuId → Type 0) (setup : SystemConfig) (c : CpuId) (p q : CpuLocal) (log : List (Action Name)) (answer : Step)
    → cpu_step setup c p log ≡ record { next = q; acts = []; answer = answer } → IsStep ActsFor (cpu_step setup c) p q log log answer
still_is_step ActsFor setup c p q log answer is = record { others = []; foreign = λ d acts. tt; next = rw is; grows = rw is; answers = rw is }

pub alone_is_step : (ActsFor : CpuId → Type 0) (setup : SystemConfig) (c : CpuId) (p q : CpuLocal) (log : List (Action Name))
    → is_in_section (phase c log) ≡ false → choice setup c p ≡ Alone q → IsStep ActsFor (cpu_step setup c) p q log log Stepped
alone_is_step ActsFor setup c p q log outside chose =
    still_is_step ActsFor setup c p q log Stepped (ap (step_in setup c p log) outside ∙ ap (λ x. chosen_step setup c p x log) chose)

halts_by : (x : Choice) (reason : Reason) → halted_by x ≡ Some reason → x ≡ Halts reason
halts_by x reason is = grind arith

pub halted_is_step : (ActsFor : CpuId → Type 0) (setup : SystemConfig) (c : CpuId) (p : CpuLocal) (log : List (Action Name)) (reason : Reason)
    → is_in_section (phase c log) ≡ false → halted_at setup c p ≡ Some reason → IsStep ActsFor (cpu_step setup c) p p log log (Halted reason)
halted_is_step ActsFor setup c p log reason outside halted = still_is_step ActsFor setup c p p log (Halted reason) (grind (arith, halts_by, outside, halted))

pub halts_exactly : HaltsExactly
halts_exactly setup c p log = grind arith

-- A poll of a lock: one more try of a section that waits.

pub look_is_step : (ActsFor : CpuId → Type 0) (setup : SystemConfig) (c : CpuId) (p : CpuLocal) (old new : List (Action TowerName))
    → Tries ActsFor c old new → IsStep ActsFor (cpu_step setup c) p p (named old) (named new) Stepped
look_is_step ActsFor setup c p old new tries =
    let history = tries_renamed name_of ActsFor c old new tries in
    let log : List (Action Name) = history.past in
    let is : cpu_step setup c p log ≡ acting setup c p log = ap (λ x. step_in setup c p log (is_in_section x)) history.waits in
    let none = ap (λ x. at_give x (option_map (table_kernel.answer (asked setup c p).name)
    (block_after edited (table_opening setup) (asked setup c p).lock (sections_in log)))) history.waits in
    let act = ap (λ x. action_in c (asked setup c p).lock (asked setup c p).name log x) history.waits in
    let next : p ≡ (cpu_step setup c p log).next = ap (after_reply setup c p) (sym none) ∙ ap (λ o. o.next) (sym is) in
    let grown : named new ≡ (cpu_step setup c p log).acts ++ log = history.grows ∙ (ap (λ a. a ∷ log) (sym act) ∙ ap (λ o. o.acts ++ log) (sym is)) in
    record {
      others = history.others;
      foreign = history.foreign;
      next = subst (λ l. p ≡ (cpu_step setup c p l).next) history.joined next;
      grows = subst (λ l. named new ≡ (cpu_step setup c p l).acts ++ l) history.joined grown;
      answers = subst (λ l. Stepped ≡ (cpu_step setup c p l).answer) history.joined (ap (λ o. o.answer) (sym is));
    }

-- What a CPU does that is not halted.

-- if the hand is empty and a thread runs, it continues its call or its instruction
pub choice_current : (setup : SystemConfig) (c : CpuId) (p : CpuLocal) (t : Tid) (call : Option TableCall) → p.hand ≡ None → p.current ≡ Some t
    → (thread_at p t).call ≡ call → halted_at setup c p ≡ None → choice setup c p ≡ at_call setup c p t call
choice_current setup c p t call hand current is halted = grind arith

-- if no thread runs, the first ready thread does
pub choice_idle : (setup : SystemConfig) (c : CpuId) (p : CpuLocal) → p.hand ≡ None → p.current ≡ None → halted_at setup c p ≡ None
    → choice setup c p ≡ at_ready p p.ready
choice_idle setup c p hand current halted = grind arith

-- a thread in the hand precedes all else
pub choice_hand : (setup : SystemConfig) (c : CpuId) (p : CpuLocal) (u : Tid) → p.hand ≡ Some u → choice setup c p ≡ Goes p
choice_hand setup c p u hand = ap (at_hand setup c p) hand

-- the section that continues, or begins
pub step_goes : (setup : SystemConfig) (c : CpuId) (p q : CpuLocal) (old past : List (Action TowerName)) → phase c past ≡ phase c old
    → (is_in_section (phase c old) ≡ true → p ≡ q) → (is_in_section (phase c old) ≡ false → choice setup c p ≡ Goes q)
    → cpu_step setup c p (named past) ≡ acting setup c q (named past)
step_goes setup c p q old past same inside outside =
    ap (λ x. step_in setup c p (named past) (is_in_section x)) (phase_renamed name_of c past ∙ same) ∙ go (is_in_section (phase c old)) refl
  where
    go : (b : Bool) → is_in_section (phase c old) ≡ b → step_in setup c p (named past) b ≡ acting setup c q (named past)
    go b is = grind arith
