-- Along the step table each thread's entries are its program's calls up to its state.
use Rattle.std.proofs.Common.{◌≡◌, ◌⊎◌, inl, inr, ℕ, ◌<◌, ◌≤◌, ◌==◌, Bool, true, false, List, [], ◌∷◌, ◌++◌, ◌+◌, length, reverse, Option, Some, None}
use Rattle.std.proofs.{Common.{option_map, if◌then◌else◌, slice_index_or, refl, sym, ap, ◌∙◌, subst, arith}, lemmas.Bool.{cases_lt, eq-eqb}}
use Rattle.std.proofs.lemmas.List.{Elements.filter-append, append-nil, get_or_past, reverse-append, set_past}
use Rattle.event_log.specs.{declared.{entries.Entry.Entry, ids.{BufId.BufId, CpuId.CpuId, Tid.Tid}}, Actions.{Action, Phase, Rests, Waits as WaitsAt, Holds}}
use Rattle.event_log.specs.{Actions.phase, Messages.{Message, no_message}, Runs.{Group, Sends, Receives, Closes}, Sections.sections_in}
use Rattle.guest.specs.{State.{State, message_from, next_of, after_local}, Calls.{IsProgramsCalls, made_none, sends, receives, closes, offers, asks_in_vain}}
use Rattle.guest.specs.declared.instructions.Instruction.{Instruction, TheVariants.{Set, Add, Sub, Jnz, Send, Recv, Close, Yield, Exit}}
use Rattle.{guest.proofs.CallsLemmas.{calls-local_is, calls-yield}, thread_blocks.{specs.Queues.same_tid, proofs.Members.same_tid_true}}
use Rattle.layer_traits.specs.declared.{locked.Side.{Side, TheVariants.{Receivers, Senders}}, call_states.Stage.{Stage, TheVariants.{Idle, Acquires, Enters}}}
use Rattle.layer_traits.specs.declared.call_states.Stage.TheVariants.{Tries, Waits, AcquiresAgain, Signals, SignalsOwn, Releases}
use Rattle.layer_traits.specs.{declared.steps.Reason.TheVariants.{AllEnded, TraceFull}, Polling.{Plans.{at_give, is_in_section}, Along.{starts, others, steps}}}
use Rattle.cpu.specs.Table.{Blocks.{Block, OfBuffer, OfPending, Name, Reported, Done, WasClosed, NotYet, side_of_group, kind_for}, Edits.answer}
use Rattle.cpu.specs.Table.{Edits.{drawn_position, may_try, report_of_put}, Setups.{SystemConfig, Call, CpuLocal, Thread, has_none, have_ended, home_threads}}
use Rattle.cpu.specs.Table.{Setups.{new_thread, open_calls, program_of, stands_at, thread_at, with_thread, boot_of}, Choice.{asked, asked_at, asked_by}}
use Rattle.cpu.specs.Table.Choice.{asked_in, at_call, at_current, at_hand, at_instruction, at_ready, Choice, Halts, Alone, Goes, after_at, after_by, after_call}
use Rattle.cpu.specs.Table.Choice.{after_in, begin_or_halt, choice, effected, first_section, guest_after, new_call, with_call, with_state, with_told}
use Rattle.cpu.specs.Table.Choice.{recorded_entry, recorded_try, returned_at, returned_by, returned_in, section_due, settled, slept_if, try_due, woken}
use Rattle.cpu.specs.{Table.Steps.{AlongTable, acting, after_reply, chosen_step, cpu_step, step_in}, Cpus.of_thread, Wakeups.Order.block_of}
use Rattle.{cpu.proofs.Wakeups.{Agreement.{at_other, at_same}, ReachedStates.all_new}, cpu_workers.specs.Prefixes.come_to}

-- What a call has to do with its program.

-- a call of this group on this buffer, with this message if it sends, is what the instruction asks
-- for
abbrev Asks : Instruction → State → Group → BufId → Message → Type 0
Asks (Send b from k) s group buffer message = (group ≡ Sends) × (buffer ≡ b) × (message ≡ message_from s from)
Asks (Recv b into k) s group buffer message = (group ≡ Receives) × (buffer ≡ b)
Asks (Close b) s group buffer message = (group ≡ Closes) × (buffer ≡ b)
Asks other s group buffer message = ⊥

-- a call that waits in a queue: a close does not
abbrev IsLined : Group → Type 0
IsLined Closes = ⊥
IsLined group = Unit {0}

-- the stages before a call's effect, and those after it
abbrev IsBefore : Stage → Group → Type 0
IsBefore Acquires group = Unit {0}
IsBefore Enters group = Unit {0}
IsBefore Tries group = IsLined group
IsBefore Waits group = IsLined group
IsBefore AcquiresAgain group = IsLined group
IsBefore stage group = ⊥

abbrev IsAfter : Stage → Type 0
IsAfter Signals = Unit {0}
IsAfter SignalsOwn = Unit {0}
IsAfter Releases = Unit {0}
IsAfter Idle = Unit {0}
IsAfter stage = ⊥

-- a call that has not taken effect is what its thread's instruction asks for; the thread's entries
-- lead to that instruction
record Opened (program : List Instruction) (s : State) (es : List Entry) (call : Call) : Type 0 where
  stage : IsBefore call.stage call.asks
  closed : call.closed ≡ false
  asks : Asks (next_of program s) s call.asks call.buffer call.message
  calls : IsProgramsCalls program es s

-- those of one with an effect lead to where it leaves its thread
record Effected (program : List Instruction) (s : State) (es : List Entry) (call : Call) : Type 0 where
  stage : IsAfter call.stage
  calls : IsProgramsCalls program es (guest_after call.asks call.closed (next_of program s) call.message s)

abbrev Inside : List Instruction → State → List Entry → Call → Option ℕ → Type 0
Inside program s es call None = Opened program s es call
Inside program s es call (Some op) = Effected program s es call

abbrev Stood : List Instruction → State → List Entry → Option Call → Type 0
Stood program s es None = IsProgramsCalls program es s
Stood program s es (Some call) = Inside program s es call call.effect

-- an effect is one more of the program's calls
effect_more : (program : List Instruction) (s : State) (es : List Entry) (i : Instruction) (group : Group) (buffer : BufId) (message m : Message)
    (closed : Bool) (e : Entry) → next_of program s ≡ i → Asks i s group buffer message → (closed ≡ true → IsLined group) → (group ≡ Sends → m ≡ message)
    → IsProgramsCalls program es s → e.kind ≡ kind_for group closed → e.buffer ≡ buffer → e.value ≡ m
    → IsProgramsCalls program (e ∷ es) (guest_after group closed i m s)
effect_more program s es (Send b from k) group buffer message m false e at asks lined sent calls kind on value =
    subst (λ (g : Group). IsProgramsCalls program (e ∷ es) (guest_after g false (Send b from k) m s)) (sym asks.0)
    (sends b from k e calls at (kind ∙ ap (λ g. kind_for g false) asks.0) (on ∙ asks.1) (value ∙ sent asks.0 ∙ asks.2))
effect_more program s es (Send b from k) group buffer message m true e at asks lined sent calls kind on value =
    subst (λ (g : Group). IsProgramsCalls program (e ∷ es) (guest_after g true (Send b from k) m s)) (sym asks.0)
    (offers b from k e calls at (kind ∙ ap (λ g. kind_for g true) asks.0) (on ∙ asks.1) (value ∙ sent asks.0 ∙ asks.2))
effect_more program s es (Recv b into k) group buffer message m false e at asks lined sent calls kind on value =
    subst (λ (g : Group). IsProgramsCalls program (e ∷ es) (guest_after g false (Recv b into k) m s)) (sym asks.0)
    (subst (λ (n : Message). IsProgramsCalls program (e ∷ es) (guest_after Receives false (Recv b into k) n s)) value
    (receives b into k e calls at (kind ∙ ap (λ g. kind_for g false) asks.0) (on ∙ asks.1)))
effect_more program s es (Recv b into k) group buffer message m true e at asks lined sent calls kind on value =
    subst (λ (g : Group). IsProgramsCalls program (e ∷ es) (guest_after g true (Recv b into k) m s)) (sym asks.0)
    (asks_in_vain b into k e calls at (kind ∙ ap (λ g. kind_for g true) asks.0) (on ∙ asks.1))
effect_more program s es (Close b) group buffer message m false e at asks lined sent calls kind on value =
    subst (λ (g : Group). IsProgramsCalls program (e ∷ es) (guest_after g false (Close b) m s)) (sym asks.0)
    (closes b e calls at (kind ∙ ap (λ g. kind_for g false) asks.0) (on ∙ asks.1))
effect_more program s es (Close b) group buffer message m true e at asks lined sent calls kind on value = absurd (subst IsLined asks.0 (lined refl))
effect_more program s es other group buffer message m closed e at asks lined sent calls kind on value = absurd asks

-- A CPU.

-- a trace with one entry more, as a thread has it, newest first
traced : (trace : List Entry) (e : Entry) (t : ℕ)
    → reverse (of_thread t (trace ++ e ∷ [])) ≡ (if e.thread.0 == t then e ∷ reverse (of_thread t trace) else reverse (of_thread t trace))
traced trace e t = grind (arith, filter-append (λ (x : Entry). x.thread.0 == t) trace (e ∷ []), reverse-append, append-nil)

module _ (setup : SystemConfig) where
  abbrev entries_in : CpuLocal → Tid → List Entry
  entries_in p t = reverse (of_thread t.0 p.trace)

  -- each thread of a CPU is in the state to which its entries lead
  abbrev Follow : CpuLocal → Type 0
  Follow p = (t : Tid) → Stood (program_of setup t) (thread_at p t).guest (entries_in p t) (thread_at p t).call

  -- one thread has changed
  set_thread : (p : CpuLocal) (t : Tid) (x : Thread) → Follow p → Stood (program_of setup t) x.guest (entries_in p t) x.call → Follow (with_thread p t x)
  set_thread p t x follow now u = by_test (same_tid t u) refl
    where
      here : (t.0 < length p.threads) ⊎ (length p.threads ≤ t.0)
          → Stood (program_of setup t) (thread_at (with_thread p t x) t).guest (entries_in p t) (thread_at (with_thread p t x) t).call
      here (inl known) = subst (λ (y : Thread). Stood (program_of setup t) y.guest (entries_in p t) y.call) (sym (at_same p t x known)) now
      here (inr past) = subst (λ (l : List Thread). Stood (program_of setup t) (slice_index_or l t.0 new_thread).guest (entries_in p t)
          (slice_index_or l t.0 new_thread).call) (sym (set_past p.threads t.0 x past)) (follow t)

      by_test : (same : Bool) → same_tid t u ≡ same
          → Stood (program_of setup u) (thread_at (with_thread p t x) u).guest (entries_in p u) (thread_at (with_thread p t x) u).call
      by_test true is = subst (λ (v : Tid). Stood (program_of setup v) (thread_at (with_thread p t x) v).guest (entries_in p v)
          (thread_at (with_thread p t x) v).call) (same_tid_true t u is) (here (cases_lt t.0 (length p.threads)))
      by_test false off = subst (λ (y : Thread). Stood (program_of setup u) y.guest (entries_in p u) y.call) (sym (at_other p t u x off)) (follow u)

  -- one that is in no call has changed by itself
  set_guest : (p : CpuLocal) (t : Tid) (guest : State) → (thread_at p t).call ≡ None → Follow p
      → (IsProgramsCalls (program_of setup t) (entries_in p t) (thread_at p t).guest → IsProgramsCalls (program_of setup t) (entries_in p t) guest)
      → Follow (with_state p t guest)
  set_guest p t guest outside follow more =
      set_thread p t _ follow (subst (λ o. Stood (program_of setup t) guest (entries_in p t) o) (sym outside)
      (more (subst (λ o. Stood (program_of setup t) (thread_at p t).guest (entries_in p t) o) outside (follow t))))

  -- one thread has changed by an effect
  set_effect : (p : CpuLocal) (t : Tid) (x : Thread) (e : Entry) → t.0 < length p.threads → e.thread ≡ t → Follow p
      → Stood (program_of setup t) x.guest (e ∷ entries_in p t) x.call → Follow (record (with_thread p t x) { trace = p.trace ++ e ∷ [] })
  set_effect p t x e known its follow now u = by_test (same_tid t u) refl
    where
      entries_are : (v : Tid) (mine : Bool) → same_tid t v ≡ mine
          → reverse (of_thread v.0 (p.trace ++ e ∷ [])) ≡ (if mine then e ∷ entries_in p v else entries_in p v)
      entries_are v mine is = traced p.trace e v.0 ∙ ap (λ local. if local then e ∷ entries_in p v else entries_in p v) (ap (λ w. same_tid w v) its ∙ is)

      by_test : (mine : Bool) → same_tid t u ≡ mine
          → Stood (program_of setup u) (thread_at (with_thread p t x) u).guest (reverse (of_thread u.0 (p.trace ++ e ∷ [])))
          (thread_at (with_thread p t x) u).call
      by_test true is = subst (λ (v : Tid). Stood (program_of setup v) (thread_at (with_thread p t x) v).guest (reverse (of_thread v.0 (p.trace ++ e ∷ [])))
          (thread_at (with_thread p t x) v).call) (same_tid_true t u is)
          (subst (λ l. Stood (program_of setup t) (thread_at (with_thread p t x) t).guest l (thread_at (with_thread p t x) t).call)
          (sym (entries_are t true (eq-eqb t.0 t.0 refl)))
          (subst (λ (y : Thread). Stood (program_of setup t) y.guest (e ∷ entries_in p t) y.call) (sym (at_same p t x known)) now))
      by_test false off = subst (λ l. Stood (program_of setup u) (thread_at (with_thread p t x) u).guest l (thread_at (with_thread p t x) u).call)
          (sym (entries_are u false off))
          (subst (λ (y : Thread). Stood (program_of setup u) y.guest (entries_in p u) y.call) (sym (at_other p t u x off)) (follow u))

  -- a thread that is inside a call is one of the CPU's
  known : (p : CpuLocal) (t : Tid) (call : Call) → (thread_at p t).call ≡ Some call → t.0 < length p.threads
  known p t call inside = grind (arith, cases_lt, get_or_past)

  put_message : (lets closed : Bool) (of op : ℕ) (put m : Message) → (if lets then report_of_put closed of put else NotYet) ≡ Done op m → m ≡ put
  put_message lets closed of op put m is = grind arith

  -- what a send has put, according to its result, is its message
  sent_message : (t : Tid) (call : Call) (side : Side) → side_of_group call.asks ≡ side → (x : Block) (op : ℕ) (m : Message)
      → (answer (try_due t call side) x).told ≡ Done op m → call.asks ≡ Sends → m ≡ call.message
  sent_message t call Senders is (OfBuffer k) op m told sent = put_message (may_try Senders t k) k.closed k.effects op call.message m told
  sent_message t call Senders is (OfPending threads) op m told sent = absurd (cc told)
  sent_message t call Receivers is x op m told sent = absurd (cc (sym (ap side_of_group sent) ∙ is))

  -- A thread inside a call.

  module _ (p : CpuLocal) (t : Tid) (call : Call) (inside : (thread_at p t).call ≡ Some call) (follow : Follow p) where
    abbrev program : List Instruction
    program = program_of setup t

    abbrev guest : State
    guest = (thread_at p t).guest

    -- what is said of its stage, where that is known
    early_at : {stage : Stage} → call.stage ≡ stage → IsBefore call.stage call.asks → IsBefore stage call.asks
    early_at at = subst (λ stage. IsBefore stage call.asks) at

    late_at : {stage : Stage} → call.stage ≡ stage → IsAfter call.stage → IsAfter stage
    late_at at = subst IsAfter at

    stood : Inside program guest (entries_in p t) call call.effect
    stood = subst (λ o. Stood program guest (entries_in p t) o) inside (follow t)

    is_opened : (IsAfter call.stage → ⊥) → Opened program guest (entries_in p t) call
    is_opened early = by_effect call.effect stood
      where
        by_effect : (o : Option ℕ) → Inside program guest (entries_in p t) call o → Opened program guest (entries_in p t) call
        by_effect None opened = opened
        by_effect (Some op) done = absurd (early done.stage)

    is_effected : (IsBefore call.stage call.asks → ⊥) → Effected program guest (entries_in p t) call
    is_effected late = by_effect call.effect stood
      where
        by_effect : (o : Option ℕ) → Inside program guest (entries_in p t) call o → Effected program guest (entries_in p t) call
        by_effect None opened = absurd (late opened.stage)
        by_effect (Some op) done = done

    -- the call continues to another stage, and has drawn this position
    goes : (position : ℕ) (stage : Stage) → (IsBefore call.stage call.asks → IsBefore stage call.asks) → (IsAfter call.stage → IsAfter stage)
        → Follow (with_thread p t (record (thread_at p t) { call = Some (record call { position = position; stage = stage }) }))
    goes position stage early late = set_thread p t _ follow (by_effect call.effect stood)
      where
        by_effect : (o : Option ℕ) → Inside program guest (entries_in p t) call o
            → Inside program guest (entries_in p t) (record call { position = position; stage = stage }) o
        by_effect None opened = record { stage = early opened.stage; closed = opened.closed; asks = opened.asks; calls = opened.calls }
        by_effect (Some op) done = record { stage = late done.stage; calls = done.calls }

    module _ (c : CpuId) where
      -- the call has its effect
      takes_effect : (position : ℕ) (m : Message) (closed : Bool) (op : ℕ) → (IsAfter call.stage → ⊥) → (closed ≡ true → IsLined call.asks)
          → (call.asks ≡ Sends → m ≡ call.message) → Follow (effected c p t (record call { position = position; message = m; closed = closed }) op)
      takes_effect position m closed op early lined sent =
          let opened = is_opened early in
          set_effect p t _ _ (known p t call inside) refl follow (record {
            stage = tt;
            calls = effect_more program guest (entries_in p t) (stands_at setup p t) call.asks call.buffer call.message m closed _
                refl opened.asks lined sent opened.calls refl refl refl;
          })

      -- and so where the buffer was open
      serves : (position : ℕ) (m : Message) (op : ℕ) → (IsAfter call.stage → ⊥) → (call.asks ≡ Sends → m ≡ call.message)
          → Follow (effected c p t (record call { position = position; message = m }) op)
      serves position m op early sent =
          let was_open = (is_opened early).closed in takes_effect position m call.closed op early (λ shut. absurd (cc (shut, was_open))) sent

      try_follows : call.stage ≡ Tries → (told : Reported) → ((op : ℕ) (m : Message) → told ≡ Done op m → call.asks ≡ Sends → m ≡ call.message)
          → Follow (recorded_try c p t call told)
      try_follows at (Done op m) sent = serves call.position m op (late_at at) (sent op m refl)
      try_follows at (WasClosed op) sent =
          takes_effect call.position call.message true op (late_at at) (λ shut. early_at at (is_opened (late_at at)).stage) (λ sender. refl)
      try_follows at NotYet sent = goes call.position Waits (early_at at) (late_at at)
      try_follows at other sent = follow

      entry_follows : call.stage ≡ Enters → (asks : Group) → call.asks ≡ asks → (x : Block)
          → Follow (recorded_entry c p t call asks (answer (first_section t asks) x).told)
      entry_follows at Sends is (OfBuffer k) = goes (drawn_position Senders k) Tries (λ early. subst IsLined (sym is) tt) (late_at at)
      entry_follows at Receives is (OfBuffer k) = goes (drawn_position Receivers k) Tries (λ early. subst IsLined (sym is) tt) (late_at at)
      entry_follows at Closes is (OfBuffer k) = serves k.closes call.message k.effects (late_at at) (λ sender. refl)
      entry_follows at Sends is (OfPending threads) = follow
      entry_follows at Receives is (OfPending threads) = follow
      entry_follows at Closes is (OfPending threads) = follow

      section_follows : (stage : Stage) → call.stage ≡ stage → (x : Block) → Follow (with_told c p t call stage (answer (section_due t call stage) x).told)
      section_follows Acquires at x = goes call.position Enters (λ early. tt) (late_at at)
      section_follows Enters at x = entry_follows at call.asks refl x
      section_follows Tries at x =
          let side = side_of_group call.asks in try_follows at (answer (try_due t call side) x).told (sent_message t call side refl x)
      section_follows Waits at x = goes call.position AcquiresAgain (early_at at) (late_at at)
      section_follows AcquiresAgain at x = goes call.position Tries (early_at at) (late_at at)
      section_follows Signals at x = goes call.position SignalsOwn (early_at at) (λ late. tt)
      section_follows SignalsOwn at x = goes call.position Releases (early_at at) (λ late. tt)
      section_follows Releases at x = goes call.position Idle (early_at at) (λ late. tt)
      section_follows Idle at x = follow

  -- What a section leaves.

  slept_follows : (slept : Bool) (p : CpuLocal) → Follow p → Follow (slept_if slept p)
  slept_follows slept p follow = grind arith

  woken_follows : (c : CpuId) (woke : Option Tid) (p : CpuLocal) → Follow p → Follow (woken setup c woke p)
  woken_follows c woke p follow = grind arith

  settled_follows : (p : CpuLocal) → Follow p → Follow (settled setup p)
  settled_follows p follow = by_hand p.hand p.current
    where
      by_stage : (t : Tid) (call : Call) → (thread_at p t).call ≡ Some call → (stage : Stage) → call.stage ≡ stage → Follow (returned_at setup p t call stage)
      by_stage t call inside Idle at = set_thread p t _ follow (is_effected p t call inside follow (early_at p t call inside follow at)).calls
      by_stage t call inside other at = follow

      by_call : (t : Tid) (call : Option Call) → (thread_at p t).call ≡ call → Follow (returned_by setup p t call)
      by_call t None inside = follow
      by_call t (Some call) inside = by_stage t call inside call.stage refl

      by_hand : (hand current : Option Tid) → Follow (returned_in setup p hand current)
      by_hand (Some s) current = follow
      by_hand None None = follow
      by_hand None (Some t) = by_call t (thread_at p t).call refl

  module _ (c : CpuId) (p : CpuLocal) (follow : Follow p) where
    call_follows : (t : Tid) (call : Call) → (thread_at p t).call ≡ Some call → (x : Block)
        → Follow (after_call setup c p t call (answer (section_due t call call.stage) x))
    call_follows t call inside x =
        let a = answer (section_due t call call.stage) x in
        let q = with_told c p t call call.stage a.told in
        settled_follows (woken setup c a.woke (slept_if a.slept q))
        (woken_follows c a.woke (slept_if a.slept q) (slept_follows a.slept q (section_follows p t call inside follow c call.stage refl x)))

    by_follows : (t : Tid) (call : Option Call) → (thread_at p t).call ≡ call → (x : Block)
        → Follow (after_by setup c p t call (answer (asked_by c t call).name x))
    by_follows t None outside x = set_guest p t _ outside follow (calls-yield (program_of setup t) (entries_in p t) (thread_at p t).guest)
    by_follows t (Some call) inside x = call_follows t call inside x

    at_follows : (current : Option Tid) (x : Block) → Follow (after_at setup c p current (answer (asked_at c p current).name x))
    at_follows None x = follow
    at_follows (Some t) x = by_follows t (thread_at p t).call refl x

    in_follows : (hand : Option Tid) (x : Block) → Follow (after_in setup c p hand (answer (asked_in setup c p hand).name x))
    in_follows (Some s) x = settled_follows (record p { hand = None }) follow
    in_follows None x = at_follows p.current x

    reply_follows : (o : Option Block) → Follow (after_reply setup c p (option_map (answer (asked setup c p).name) o))
    reply_follows None = follow
    reply_follows (Some x) = in_follows p.hand x

    acting_follows : (now : Phase) (o : Option Block) → Follow (after_reply setup c p (at_give now (option_map (answer (asked setup c p).name) o)))
    acting_follows Rests o = follow
    acting_follows (WaitsAt there) o = follow
    acting_follows (Holds there) o = reply_follows o

  -- What is chosen.

  abbrev FollowChosen : Choice → Type 0
  FollowChosen (Halts reason) = Unit {0}
  FollowChosen (Alone q) = Follow q
  FollowChosen (Goes q) = Follow q

  choice_follows : (c : CpuId) (p : CpuLocal) → Follow p → FollowChosen (choice setup c p)
  choice_follows c p follow = by_hand p.hand
    where
      begun : (t : Tid) (call : Call) → Opened (program_of setup t) (thread_at p t).guest (entries_in p t) call → call.effect ≡ None
          → FollowChosen (begin_or_halt setup c p t call)
      begun t call opened fresh = by_room ((length p.trace + open_calls p (home_threads setup c)) == setup.trace_room)
        where
          by_room : (full : Bool) → FollowChosen (if full then Halts TraceFull else Goes (with_call p t (Some call)))
          by_room true = tt
          by_room false = set_thread p t (record (thread_at p t) { call = Some call }) follow
              (subst (λ o. Inside (program_of setup t) (thread_at p t).guest (entries_in p t) call o) (sym fresh) opened)

      computes : (t : Tid) (i : Instruction) → (thread_at p t).call ≡ None → stands_at setup p t ≡ i
          → Follow (with_state p t (after_local i (thread_at p t).guest))
      computes t i outside at = set_guest p t _ outside follow (λ calls.
          subst (λ line. IsProgramsCalls (program_of setup t) (entries_in p t) (after_local line (thread_at p t).guest)) at
          (calls-local_is (program_of setup t) (entries_in p t) (thread_at p t).guest calls))

      instructed : (t : Tid) (line : Instruction) → (thread_at p t).call ≡ None → stands_at setup p t ≡ line → FollowChosen (at_instruction setup c p t line)
      instructed t line outside at = by_line line at (subst (λ o. Stood (program_of setup t) (thread_at p t).guest (entries_in p t) o) outside (follow t))
        where
          by_line : (i : Instruction) → stands_at setup p t ≡ i → IsProgramsCalls (program_of setup t) (entries_in p t) (thread_at p t).guest
              → FollowChosen (at_instruction setup c p t i)
          by_line (Send b from k) at calls = begun t (new_call Sends b (message_from (thread_at p t).guest from))
              (record { stage = tt; closed = refl; asks = rw at (refl, refl, refl); calls = calls }) refl
          by_line (Recv b into k) at calls = begun t (new_call Receives b no_message)
              (record { stage = tt; closed = refl; asks = rw at (refl, refl); calls = calls }) refl
          by_line (Close b) at calls = begun t (new_call Closes b no_message)
              (record { stage = tt; closed = refl; asks = rw at (refl, refl); calls = calls }) refl
          by_line Yield at calls = follow
          by_line Exit at calls = set_thread p t (record (thread_at p t) { ended = true }) follow (follow t)
          by_line (Set r n) at calls = computes t (Set r n) outside at
          by_line (Add r q) at calls = computes t (Add r q) outside at
          by_line (Sub r q) at calls = computes t (Sub r q) outside at
          by_line (Jnz r k) at calls = computes t (Jnz r k) outside at

      by_call : (t : Tid) (call : Option Call) → (thread_at p t).call ≡ call → FollowChosen (at_call setup c p t call)
      by_call t None outside = instructed t (stands_at setup p t) outside refl
      by_call t (Some call) inside = follow

      by_ready : (ready : List Tid) → FollowChosen (at_ready p ready)
      by_ready ready = grind arith

      by_current : (current : Option Tid) → FollowChosen (at_current setup c p current)
      by_current None = by_ready p.ready
      by_current (Some t) = by_call t (thread_at p t).call refl

      by_ended : (all : Bool) → FollowChosen (if all then Halts AllEnded else at_current setup c p p.current)
      by_ended true = tt
      by_ended false = by_current p.current

      by_hand : (hand : Option Tid) → FollowChosen (at_hand setup c p hand)
      by_hand (Some s) = follow
      by_hand None = by_ended (have_ended p (home_threads setup c))

  -- One step, and a way.

  step_follows : (c : CpuId) (p : CpuLocal) (log : List (Action Name)) → Follow p → Follow (cpu_step setup c p log).next
  step_follows c p log follow = by_section (is_in_section (phase c log))
    where
      acted : (q : CpuLocal) → Follow q → Follow (acting setup c q log).next
      acted q now = acting_follows c q now (phase c log) (block_of setup (asked setup c q).lock (sections_in log))

      by_choice : (what : Choice) → FollowChosen what → Follow (chosen_step setup c p what log).next
      by_choice (Halts reason) is = follow
      by_choice (Alone q) is = is
      by_choice (Goes q) is = acted q is

      by_section : (inside : Bool) → Follow (step_in setup c p log inside).next
      by_section true = acted p follow
      by_section false = by_choice (choice setup c p) (choice_follows c p follow)

  boot_follows : (c : CpuId) → Follow (boot_of setup c)
  boot_follows c t = subst (λ (x : Thread). Stood (program_of setup t) x.guest [] x.call) (sym (all_new setup.homes t.0)) made_none

  along_follows : (c : CpuId) (n : ℕ) (p : CpuLocal) (log : List (Action Name)) → AlongTable setup c n p log → Follow p
  along_follows c n p log starts = boot_follows c
  along_follows c n p log (others {n = m} {p = q} {log = past} a along off) = along_follows c m q past along
  along_follows c n p log (steps {n = m} {p = q} {log = past} along stepped) = step_follows c q past (along_follows c m q past along)

  -- each thread's entries are its program's calls up to its state
  pub threads_follow : (c : CpuId) (n : ℕ) (p : CpuLocal) (log : List (Action Name)) → AlongTable setup c n p log → (t : Tid)
      → IsProgramsCalls (program_of setup t) (reverse (of_thread t.0 p.trace)) (come_to setup p t (thread_at p t).call)
  threads_follow c n p log along t = by_call (thread_at p t).call (along_follows c n p log along t)
    where
      by_call : (o : Option Call) → Stood (program_of setup t) (thread_at p t).guest (entries_in p t) o
          → IsProgramsCalls (program_of setup t) (entries_in p t) (come_to setup p t o)
      by_call None is = is
      by_call (Some call) is = by_effect call.effect is
        where
          by_effect : (o : Option ℕ) → Inside (program_of setup t) (thread_at p t).guest (entries_in p t) call o → IsProgramsCalls (program_of setup t)
              (entries_in p t) (if has_none o then (thread_at p t).guest else guest_after call.asks call.closed (stands_at setup p t) call.message
              (thread_at p t).guest)
          by_effect None opened = opened.calls
          by_effect (Some op) was = was.calls
