-- The step table's trace of a CPU only grows: by one entry exactly if a section is a close or a try
-- that is released.
use Rattle.std.proofs.Common.{◌≡◌, ◌⊎◌, inl, inr, ℕ, ◌+◌, Bool, true, false, List, [], ◌∷◌, ◌++◌, length, Option, Some, None, option_map, if◌then◌else◌, refl}
use Rattle.std.proofs.{Common.{sym, ap, ◌∙◌, subst, arith, append_assoc}, lemmas.List.{append-nil, length-append}}
use Rattle.event_log.specs.{declared.{entries.Entry.Entry, ids.{CpuId.CpuId, LockId.LockId, Tid.Tid}}, History.same_cpu, Messages.Message, Actions.Action}
use Rattle.event_log.specs.{Actions.{Take, Try, Give, Phase, Rests, Waits as WaitsAt, Holds, action_in, cpu_of_action, phase}, Runs.{Group}}
use Rattle.event_log.{specs.{Runs.Closes, Sections.sections_in}, proofs.{Same.same_cpu_self, Foreign.lawful_before}}
use Rattle.layer_traits.specs.declared.{locked.Side.{Side, TheVariants.{Receivers, Senders}}, call_states.Stage.{Stage, TheVariants.{Idle, Acquires, Enters}}}
use Rattle.layer_traits.specs.{declared.call_states.Stage.TheVariants.{Tries, Waits, AcquiresAgain, Signals, SignalsOwn, Releases}, Polling.Plans.at_give}
use Rattle.{layer_traits.specs.Polling.{Plans.is_in_section, Along.{starts, others, steps}}, cpu.specs.Table.Blocks.{Block, OfBuffer, Name, TryPut}}
use Rattle.cpu.specs.Table.{Blocks.{TryTake, Shut, side_of_group}, Steps.{AlongTable, after_reply, block_at, chosen_step, cpu_step, step_in}}
use Rattle.cpu.specs.Table.{Edits.{answer, may_try}, Setups.{SystemConfig, Call, CpuLocal, thread_at}, Choice.{asked, asked_at}}
use Rattle.cpu.specs.Table.Choice.{asked_by, asked_in, Choice, Halts, Alone, Goes, after_at, after_by, after_call, after_in, choice, first_section, with_told}
use Rattle.cpu.specs.{Table.Choice.{recorded_entry, recorded_try, section_due, settled, slept_if, try_due, woken}, Wakeups.Order.block_of}
use Rattle.cpu.proofs.Wakeups.{CpusByTable.along_ok, ReachedStates.{IsFair, IsFairLog, Ok, lock_in}}

-- how many effects a section has on this block: one or none
abbrev pub grown : Name → Option Block → ℕ
grown (TryPut t m) (Some (OfBuffer k)) = if may_try Senders t k then 1 else 0
grown (TryTake t) (Some (OfBuffer k)) = if may_try Receivers t k then 1 else 0
grown (Shut t) (Some (OfBuffer k)) = 1
grown name o = 0

-- a trace extends another by so many entries
pub record Grew (old new : List Entry) (count : ℕ) : Type 0 where
  pub more : List Entry
  pub is : new ≡ old ++ more
  pub many : length more ≡ count

stays : (old new : List Entry) → new ≡ old → Grew old new 0
stays old new same = record { more = []; is = same ∙ sym (append-nil old); many = refl }

one_more : (old : List Entry) (e : Entry) → Grew old (old ++ e ∷ []) 1
one_more old e = record { more = e ∷ []; is = refl; many = refl }

no_block : (name : Name) → grown name None ≡ 0
no_block name = grind arith

module _ (setup : SystemConfig) (c : CpuId) where
  -- What leaves the trace.

  slept_trace : (slept : Bool) (p : CpuLocal) → (slept_if slept p).trace ≡ p.trace
  slept_trace slept p = grind arith

  woken_trace : (woke : Option Tid) (p : CpuLocal) → (woken setup c woke p).trace ≡ p.trace
  woken_trace woke p = grind arith

  settled_trace : (p : CpuLocal) → (settled setup p).trace ≡ p.trace
  settled_trace p = grind arith

  -- What a section of a call returned.

  try_grew : (p : CpuLocal) (t : Tid) (call : Call) (side : Side) (x : Block)
      → Grew p.trace (recorded_try c p t call (answer (try_due t call side) x).told).trace (grown (try_due t call side) (Some x))
  try_grew p t call side x = grind (arith, stays, one_more)

  entry_grew : (p : CpuLocal) (t : Tid) (call : Call) (asks : Group) (x : Block)
      → Grew p.trace (recorded_entry c p t call asks (answer (first_section t asks) x).told).trace (grown (first_section t asks) (Some x))
  entry_grew p t call asks x = grind (arith, stays, one_more)

  signals_none : (t : Tid) (call : Call) (x : Block) → (grown (section_due t call Signals) (Some x) ≡ 0) × (grown (section_due t call SignalsOwn) (Some x) ≡ 0)
  signals_none t call x = grind arith

  section_grew : (p : CpuLocal) (t : Tid) (call : Call) (stage : Stage) (x : Block)
      → Grew p.trace (with_told c p t call stage (answer (section_due t call stage) x).told).trace (grown (section_due t call stage) (Some x))
  section_grew p t call Enters x = entry_grew p t call call.asks x
  section_grew p t call Tries x = try_grew p t call (side_of_group call.asks) x
  section_grew p t call Signals x = subst (λ n. Grew p.trace p.trace n) (sym (signals_none t call x).0) (stays p.trace p.trace refl)
  section_grew p t call SignalsOwn x = subst (λ n. Grew p.trace p.trace n) (sym (signals_none t call x).1) (stays p.trace p.trace refl)
  section_grew p t call Acquires x = stays p.trace p.trace refl
  section_grew p t call Waits x = stays p.trace p.trace refl
  section_grew p t call AcquiresAgain x = stays p.trace p.trace refl
  section_grew p t call Releases x = stays p.trace p.trace refl
  section_grew p t call Idle x = stays p.trace p.trace refl

  -- What a section leaves.

  call_grew : (p : CpuLocal) (t : Tid) (call : Call) (x : Block)
      → Grew p.trace (after_call setup c p t call (answer (section_due t call call.stage) x)).trace (grown (section_due t call call.stage) (Some x))
  call_grew p t call x =
      let told = section_grew p t call call.stage x in
      let a = answer (section_due t call call.stage) x in
      let q = with_told c p t call call.stage a.told in
      record {
        more = told.more;
        is = settled_trace (woken setup c a.woke (slept_if a.slept q)) ∙ woken_trace a.woke (slept_if a.slept q) ∙ slept_trace a.slept q ∙ told.is;
        many = told.many;
      }

  by_grew : (p : CpuLocal) (t : Tid) (call : Option Call) (x : Block)
      → Grew p.trace (after_by setup c p t call (answer (asked_by c t call).name x)).trace (grown (asked_by c t call).name (Some x))
  by_grew p t None x = stays p.trace p.trace refl
  by_grew p t (Some call) x = call_grew p t call x

  at_grew : (p : CpuLocal) (current : Option Tid) (x : Block)
      → Grew p.trace (after_at setup c p current (answer (asked_at c p current).name x)).trace (grown (asked_at c p current).name (Some x))
  at_grew p None x = stays p.trace p.trace refl
  at_grew p (Some t) x = by_grew p t (thread_at p t).call x

  in_grew : (p : CpuLocal) (hand : Option Tid) (x : Block)
      → Grew p.trace (after_in setup c p hand (answer (asked_in setup c p hand).name x)).trace (grown (asked_in setup c p hand).name (Some x))
  in_grew p (Some s) x = stays p.trace _ (settled_trace (record p { hand = None }))
  in_grew p None x = at_grew p p.current x

  reply_grew : (p : CpuLocal) (o : Option Block)
      → Grew p.trace (after_reply setup c p (option_map (answer (asked setup c p).name) o)).trace (grown (asked setup c p).name o)
  reply_grew p None = subst (λ n. Grew p.trace p.trace n) (sym (no_block (asked setup c p).name)) (stays p.trace p.trace refl)
  reply_grew p (Some x) = in_grew p p.hand x

  -- What is chosen.

  abbrev KeepsTrace : CpuLocal → Choice → Type 0
  KeepsTrace p (Halts reason) = Unit {0}
  KeepsTrace p (Alone q) = q.trace ≡ p.trace
  KeepsTrace p (Goes q) = q.trace ≡ p.trace

  choice_keeps : (p : CpuLocal) → KeepsTrace p (choice setup c p)
  choice_keeps p = grind arith

  -- One step.

  -- how many effects these actions have
  abbrev pub made : List (Action Name) → List (Action Name) → ℕ
  made [] log = 0
  made (Take cpu lock ∷ acts) log = 0
  made (Try cpu lock hit ∷ acts) log = 0
  made (Give cpu lock name ∷ acts) log = grown name (block_at setup lock log)

  acting_grew : (q : CpuLocal) (log : List (Action Name)) → ((lock : LockId) → lock_in (phase c log) ≡ Some lock → lock ≡ (asked setup c q).lock)
      → (now : Phase) → phase c log ≡ now
      → Grew q.trace (after_reply setup c q (at_give now (option_map (answer (asked setup c q).name) (block_of setup (asked setup c q).lock
      (sections_in log))))).trace (made (action_in c (asked setup c q).lock (asked setup c q).name log now ∷ []) log)
  acting_grew q log under Rests is = stays q.trace q.trace refl
  acting_grew q log under (WaitsAt there) is = stays q.trace q.trace refl
  acting_grew q log under (Holds there) is =
      rw (under there (ap lock_in is)) (reply_grew q (block_of setup (asked setup c q).lock (sections_in log)))

  nowhere : {A : Type 0} (now : Phase) (lock : LockId) → is_in_section now ≡ false → lock_in now ≡ Some lock → A
  nowhere Rests lock off at = absurd (cc at)
  nowhere other lock off at = absurd (cc off)

  pub step_grew : (p : CpuLocal) (log : List (Action Name)) → Ok setup c p log
      → Grew p.trace (cpu_step setup c p log).next.trace (made (cpu_step setup c p log).acts log)
  step_grew p log ok = by_section (is_in_section (phase c log)) refl
    where
      by_choice : is_in_section (phase c log) ≡ false → (what : Choice) → KeepsTrace p what
          → Grew p.trace (chosen_step setup c p what log).next.trace (made (chosen_step setup c p what log).acts log)
      by_choice rests (Halts reason) same = stays p.trace p.trace refl
      by_choice rests (Alone q) same = stays p.trace q.trace same
      by_choice rests (Goes q) same =
          subst (λ (old : List Entry). Grew old (chosen_step setup c p (Goes q) log).next.trace (made (chosen_step setup c p (Goes q)
          log).acts log)) same (acting_grew q log (λ lock at. nowhere (phase c log) lock rests at) (phase c log) refl)

      by_section : (inside : Bool) → is_in_section (phase c log) ≡ inside
          → Grew p.trace (step_in setup c p log inside).next.trace (made (step_in setup c p log inside).acts log)
      by_section true is = acting_grew p log ok.under (phase c log) refl
      by_section false is = by_choice is (choice setup c p) (choice_keeps p)

  -- A way.

  -- how many effects the CPU's actions have
  abbrev pub total : List (Action Name) → ℕ
  total [] = 0
  total (a ∷ past) = if same_cpu (cpu_of_action a) c then made (a ∷ []) past + total past else total past

  -- a step does one action of its CPU, or none
  abbrev IsShort : List (Action Name) → Type 0
  IsShort acts = (acts ≡ []) ⊎ ((a : Action Name) × (acts ≡ a ∷ []) × (same_cpu (cpu_of_action a) c ≡ true))

  short : (p : CpuLocal) (log : List (Action Name)) → IsShort (cpu_step setup c p log).acts
  short p log = grind (arith, same_cpu_self c)

  total_acts : (acts log : List (Action Name)) → IsShort acts → total (acts ++ log) ≡ made acts log + total log
  total_acts acts log short = grind arith

  -- the state of a CPU at the prefix of the list that it reached: its trace has one entry for each
  -- effect, and extends from there
  pub record FrontOf (p : CpuLocal) (front : List (Action Name)) : Type 0 where
    pub count : ℕ
    pub last : CpuLocal
    pub along : AlongTable setup c count last front
    pub grew : (more : List Entry) × (p.trace ≡ last.trace ++ more)
    pub counted : length last.trace ≡ total front

  counts : (n : ℕ) (p : CpuLocal) (log : List (Action Name)) → AlongTable setup c n p log → IsFairLog setup log → length p.trace ≡ total log
  counts n p log starts = λ fair. refl
  counts n p log (others {n = m} {p = q} {log = past} a along off) = λ fair.
      counts m q past along fair.1 ∙ ap (λ local. if local then made (a ∷ []) past + total past else total past) (sym off)
  counts n p log (steps {n = m} {p = q} {log = past} along stepped) = λ fair.
      let acts = (cpu_step setup c q past).acts in
      let before = lawful_before (IsFair setup) acts past fair in
      let grew = step_grew q past (along_ok setup c m q past along before) in
      omega (arith, counts m q past along before, (ap length grew.is ∙ length-append q.trace grew.more), grew.many, total_acts acts past (short q past))

  -- the way to where it is, cut at a front of the list
  pub front_of : (n : ℕ) (p : CpuLocal) (log : List (Action Name)) → AlongTable setup c n p log → IsFairLog setup log
      → (later earlier : List (Action Name)) → log ≡ later ++ earlier → FrontOf p earlier
  front_of n p log along fair [] earlier is = rw (← is)
      (record { count = n; last = p; along = along; grew = ([], sym (append-nil p.trace)); counted = counts n p log along fair })
  front_of n p log starts fair (b ∷ later) earlier is = absurd (cc is)
  front_of n p log (others {n = m} {p = q} {log = past} a along off) fair (b ∷ later) earlier is = front_of m q past along fair.1 later earlier (cc is)
  front_of n p log (steps {n = m} {p = q} {log = past} along stepped) fair (b ∷ later) earlier is =
      let acts = (cpu_step setup c q past).acts in
      let before = lawful_before (IsFair setup) acts past fair in
      let grew = step_grew q past (along_ok setup c m q past along before) in
      goes_on grew.more grew.is (by_acts (short q past) (front_of m q past along before))
    where
      goes_on : (more : List Entry) → (cpu_step setup c q past).next.trace ≡ q.trace ++ more → FrontOf q earlier
          → FrontOf (cpu_step setup c q past).next earlier
      goes_on more grows front = record {
        count = front.count;
        last = front.last;
        along = front.along;
        grew = (front.grew.0 ++ more, grows ∙ ap (λ l. l ++ more) front.grew.1 ∙ append_assoc front.last.trace front.grew.0 more);
        counted = front.counted;
      }

      by_acts : IsShort (cpu_step setup c q past).acts → ((more front : List (Action Name)) → past ≡ more ++ front → FrontOf q front) → FrontOf q earlier
      by_acts (inl none) at = at (b ∷ later) earlier (ap (λ acts. acts ++ past) (sym none) ∙ is)
      by_acts (inr one) at = at later earlier (cc (ap (λ acts. acts ++ past) (sym one.1) ∙ is))
