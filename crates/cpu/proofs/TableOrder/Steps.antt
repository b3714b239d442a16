-- One step of a CPU keeps what each CPU's trace and calls say of the effects of the log.
use Rattle.std.proofs.Common.{◌≡◌, ◌⊎◌, inl, inr, ℕ, ◌<◌, ◌==◌, Bool, true, false, ◌&&◌, List, [], ◌∷◌, ◌++◌, length, reverse, ◌+◌, Option, Some, None, is_some}
use Rattle.std.proofs.{Common.{nat_lt, option_map, option_to_list, if◌then◌else◌, refl, ap, sym, ◌∙◌, subst, arith}, lemmas.Bool.{and_parts, eq-eqb}}
use Rattle.std.proofs.lemmas.{Bool.false_from_ne_true, List.{append-nil, reverse-append}}
use Rattle.event_log.specs.declared.{entries.Entry.Entry, ids.{BufId.BufId, CpuId.CpuId, Tid.Tid, LockId.{LockId, TheVariants.{Pending, Buffer as AtBuffer}}}}
use Rattle.event_log.specs.{Actions.{Action, Take, Try, Give, Phase, Rests, Waits as WaitsAt, Holds, phase, action_in, cpu_of_action}, History.same_cpu}
use Rattle.event_log.{specs.{Messages.no_message, Runs.{Sends, Receives, Closes}, Sections.{Section, sections_in}}, proofs.Same.{same_cpu_self, same_cpu_true}}
use Rattle.{thread_blocks.{specs.Queues.same_tid, proofs.Members.{same_tid_self, same_tid_true}}, guest.specs.declared.instructions.Instruction.Instruction}
use Rattle.guest.specs.{declared.instructions.Instruction.TheVariants.{Set, Add, Sub, Jnz, Send, Recv, Close, Yield as YieldLine, Exit}, State.State}
use Rattle.{guest.specs.State.{after_local, after_yield, message_from}, layer_traits.specs.declared.locked.Side.{Side, TheVariants.{Receivers, Senders}}}
use Rattle.layer_traits.specs.declared.{steps.Reason.TheVariants.{AllEnded, TraceFull}, call_states.Stage.{Stage, TheVariants.{Tries, Waits, AcquiresAgain}}}
use Rattle.{layer_traits.specs.Polling.Plans.{at_give, is_in_section}, cpu.specs.{Cpus.of_cpu, Table.Blocks.{Buffer, Block, OfBuffer, OfPending, Name, Enter}}}
use Rattle.cpu.specs.Table.{Blocks.{Pend, TakeAll, side_of_group}, Edits.answer, Setups.{SystemConfig, Call, Thread, CpuLocal, thread_at, with_thread}}
use Rattle.cpu.specs.Table.{Setups.{home_cpu, program_of, stands_at, have_ended, home_threads, open_calls, boot_of}, Choice.{section_due, asked, asked_at}}
use Rattle.cpu.specs.Table.Choice.{asked_by, asked_in, with_call, with_state, with_told, slept_if, woken, settled, after_at, after_in, after_yielding, Choice}
use Rattle.cpu.specs.Table.Choice.{Halts, Alone, Goes, after_by, choice, at_hand, at_current, at_ready, at_call, at_instruction, begin_or_halt, new_call, ends}
use Rattle.cpu.specs.{Table.{Choice.after_call, Steps.{after_reply, acting, chosen_step, step_in, cpu_step}}, Wakeups.Order.block_of}
use Rattle.cpu.proofs.Wakeups.{Agreement.{Agrees, IsSettled, runs_at_home, runs_within, is_done, is_last}, EndedThreads.{AllFine, FitsGroup, Says, SaysCall}}
use Rattle.cpu.proofs.Wakeups.{EndedThreads.{is_before, all_new}, Lists.refuted, PostsAndVisits.{is_local, is_caller, caller_in, MayComeAt, visit, post}}
use Rattle.cpu.proofs.Wakeups.{ChosenSteps.OfChoice, CpuStep.no_pending_at_buffer, BuffersAndThreads.{callers_are, is_the_caller}, ReachedStates.IsFairLog}
use Rattle.cpu.proofs.{Wakeups.{ReachedStates.{Ok, lock_in, AllDo}, SectionsAgree.section_caller}, TableOrder.Effects.{drawn, effect_at, effect_in, effect_on}}
use Rattle.cpu.proofs.TableOrder.{Effects.{effect_placed, effects, enters_for}, Told.{AllDrew, Drew, DrewAny, Heard, is_in_line, drew_kept, drawn_stays}}
use Rattle.cpu.proofs.TableOrder.Told.{section_heard, set_drew, settled_drew, settled_trace, slept_drew, slept_trace, woken_drew, woken_trace}

-- The effects of a CPU among others.

first_kept : (c : CpuId) (e : Entry) (es : List Entry) → (e.cpu.0 == c.0) ≡ true → of_cpu c (e ∷ es) ≡ e ∷ of_cpu c es
first_kept c e es local = rw local refl

first_dropped : (c : CpuId) (e : Entry) (es : List Entry) → (e.cpu.0 == c.0) ≡ false → of_cpu c (e ∷ es) ≡ of_cpu c es
first_dropped c e es off = rw off refl

pub own_more : (c : CpuId) (o : Option Entry) (es : List Entry) → ((e : Entry) → o ≡ Some e → e.cpu ≡ c)
    → reverse (of_cpu c (option_to_list o ++ es)) ≡ reverse (of_cpu c es) ++ option_to_list o
own_more c None es its = sym (append-nil (reverse (of_cpu c es)))
own_more c (Some e) es its =
    let local : (e.cpu.0 == c.0) ≡ true = eq-eqb e.cpu.0 c.0 (ap (λ (d : CpuId). d.0) (its e refl)) in
    ap reverse (first_kept c e es local) ∙ reverse-append (e ∷ []) (of_cpu c es)

other_more : (c : CpuId) (o : Option Entry) (es : List Entry) → ((e : Entry) → o ≡ Some e → (e.cpu.0 == c.0) ≡ false)
    → of_cpu c (option_to_list o ++ es) ≡ of_cpu c es
other_more c None es its = refl
other_more c (Some e) es its = first_dropped c e es (its e refl)

pub effect_cpu : (setup : SystemConfig) (c : CpuId) (lock : LockId) (name : Name) (past : List (Section Name)) (e : Entry)
    → effect_at setup c lock name past ≡ Some e → e.cpu ≡ c
effect_cpu setup c (AtBuffer b) name past e is =
    (effect_placed c b name (drawn setup b (record { cpu = c; lock = AtBuffer b; edit = name } ∷ past)) (block_of setup (AtBuffer b) past) e is).0
effect_cpu setup c (Pending d) name past e is = absurd (cc is)

other_enters : (t u : Tid) (call : Call) (side : Side) → same_tid t u ≡ false → enters_for side u (section_due t call call.stage) ≡ false
other_enters t u call side off = grind (arith, off)

line_enters : (t : Tid) (call : Call) (side : Side) → is_in_line call.stage ≡ true → enters_for side t (section_due t call call.stage) ≡ false
line_enters t call side lined = grind (arith, lined)

module _ (setup : SystemConfig) (c : CpuId) where
  -- what a CPU's private state says of a log: each call in a line has the position that was drawn,
  -- and the trace has the CPU's effects
  pub record Told (p : CpuLocal) (past : List (Section Name)) : Type 0 where
    pub drew : AllDrew setup c p past
    pub trace : p.trace ≡ reverse (of_cpu c (effects setup past))

  abbrev pub after : LockId → Name → List (Section Name) → List (Section Name)
  after lock name past = record { cpu = c; lock = lock; edit = name } ∷ past

  module _ (past : List (Section Name)) (p : CpuLocal) (told : Told p past) where
    -- a section on pending threads has no effect
    pending_told : (d : CpuId) (name : Name) (q : CpuLocal) → AllDrew setup c q past → q.trace ≡ p.trace → Told q (after (Pending d) name past)
    pending_told d name q drew same = record {
      drew = λ u local_is. drew_kept setup u past (after (Pending d) name past) (thread_at q u).call (λ b side. refl) (drew u local_is);
      trace = same ∙ told.trace;
    }

    -- a thread keeps its call, and only its instruction or its end changed
    same_call : (t : Tid) (x : Thread) → x.call ≡ (thread_at p t).call → AllDrew setup c (with_thread p t x) past
    same_call t x same = set_drew setup c p t x past told.drew (λ local_is. subst (DrewAny setup t past) (sym same) (told.drew t local_is))

    module _ (t : Tid) (call : Call) (inside : (thread_at p t).call ≡ Some call) where
      abbrev name : Name
      name = section_due t call call.stage

      abbrev now : List (Section Name)
      now = after (AtBuffer call.buffer) (section_due t call call.stage) past

      others_drew : (u : Tid) → same_tid t u ≡ false → (o : Option Call) → DrewAny setup u past o → DrewAny setup u now o
      others_drew u off o drew =
          drew_kept setup u past now o (drawn_stays setup c past (AtBuffer call.buffer) name u (λ side. other_enters t u call side off)) drew

      -- without a block nothing is heard
      missed_own : DrewAny setup t past (Some call) → DrewAny setup t now (Some call)
      missed_own drew = record {
        fresh = drew.fresh;
        place = λ lined. drew.place lined
            ∙ sym (drawn_stays setup c past (AtBuffer call.buffer) name t (λ side. line_enters t call side lined) call.buffer (side_of_group call.asks));
      }

      missed : block_of setup (AtBuffer call.buffer) past ≡ None → Told p now
      missed none = record {
        drew = λ u local_is. by_test u local_is (same_tid t u) refl;
        trace = told.trace ∙ ap (λ (o : Option Entry). reverse (of_cpu c (option_to_list o ++ effects setup past)))
            (sym (ap (effect_in c call.buffer name (drawn setup call.buffer now)) none));
      }
        where
          by_test : (u : Tid) → is_local setup c u ≡ true → (mine : Bool) → same_tid t u ≡ mine → DrewAny setup u now (thread_at p u).call
          by_test u local_is true is =
              subst (λ v. DrewAny setup v now (thread_at p v).call) (same_tid_true t u is)
              (subst (DrewAny setup t now) (sym inside) (missed_own (subst (DrewAny setup t past) inside
              (told.drew t (subst (λ v. is_local setup c v ≡ true) (sym (same_tid_true t u is)) local_is)))))
          by_test u local_is false off = others_drew u off (thread_at p u).call (told.drew u local_is)

      module _ (local_now : is_local setup c t ≡ true) (known : t.0 < length p.threads) (coupled : FitsGroup call.asks call.stage)
          (going : is_last call.stage ≡ false) (k : Buffer) (at : block_of setup (AtBuffer call.buffer) past ≡ Some (OfBuffer k)) where
        abbrev heard_now : CpuLocal
        heard_now = with_told c p t call call.stage (answer name (OfBuffer k)).told

        heard : Heard setup c p heard_now t now (effect_on c call.buffer name (drawn setup call.buffer now) k)
        heard = section_heard setup c p t known past call (subst (DrewAny setup t past) inside (told.drew t local_now)) k at coupled going call.stage refl

        all_heard : AllDrew setup c heard_now now
        all_heard u local_is = by_test (same_tid t u) refl
          where
            by_test : (mine : Bool) → same_tid t u ≡ mine → DrewAny setup u now (thread_at heard_now u).call
            by_test true is = subst (λ v. DrewAny setup v now (thread_at heard_now v).call) (same_tid_true t u is) heard.call
            by_test false off = subst (DrewAny setup u now) (sym (heard.others u off)) (others_drew u off (thread_at p u).call (told.drew u local_is))

        call_told : Told (after_call setup c p t call (answer name (OfBuffer k))) now
        call_told =
            let a = answer name (OfBuffer k) in
            let slept = slept_if a.slept heard_now in
            let woke = woken setup c a.woke slept in
            record {
              drew = settled_drew setup c woke now (woken_drew setup c a.woke slept now (slept_drew setup c a.slept heard_now now all_heard));
              trace = settled_trace setup c woke ∙ woken_trace setup c a.woke slept ∙ slept_trace setup c a.slept heard_now ∙ heard.trace
                  ∙ ap (λ (l : List Entry). l ++ option_to_list (effect_on c call.buffer name (drawn setup call.buffer now) k)) told.trace
                  ∙ sym (own_more c (effect_on c call.buffer name (drawn setup call.buffer now) k) (effects setup past)
                  (λ e is. (effect_placed c call.buffer name (drawn setup call.buffer now) (Some (OfBuffer k)) e is).0))
                  ∙ ap (λ (o : Option Entry). reverse (of_cpu c (option_to_list o ++ effects setup past)))
                  (sym (ap (effect_in c call.buffer name (drawn setup call.buffer now)) at));
            }

    -- The section that is requested.

    module _ (T_agrees : Agrees setup c p (λ u. visit setup u past) (λ u. post setup u past)) (settled_before : IsSettled setup c p)
        (fine : AllFine setup p) where
      going_on : (t : Tid) (call : Call) → p.hand ≡ None → is_local setup c t ≡ true → (thread_at p t).call ≡ Some call → is_last call.stage ≡ false
      going_on t call empty local_is inside =
          false_from_ne_true (is_last call.stage) (λ on. refuted (ap is_some empty) (settled_before t local_is (ap is_done inside ∙ on)).0)

      fits_late : (call : Call) (stage : Stage) → is_before stage ≡ false → FitsGroup call.asks stage
      fits_late call Tries off = absurd (cc off)
      fits_late call Waits off = absurd (cc off)
      fits_late call AcquiresAgain off = absurd (cc off)
      fits_late call stage off = tt

      fits_now : (t : Tid) (call : Call) → (thread_at p t).call ≡ Some call → FitsGroup call.asks call.stage
      fits_now t call inside = by_stage (is_before call.stage) refl
        where
          says : SaysCall (program_of setup t) (thread_at p t).guest call
          says = subst (Says (program_of setup t) (thread_at p t).guest) inside (fine t).says

          by_stage : (early : Bool) → is_before call.stage ≡ early → FitsGroup call.asks call.stage
          by_stage true is = (says is).2
          by_stage false is = fits_late call call.stage is

      -- what the caller's CPU has then
      abbrev by_block : Tid → Option Call → Option Block → CpuLocal
      by_block t o None = p
      by_block t o (Some x) = after_by setup c p t o (answer (asked_by c t o).name x)

      abbrev at_block : Option Tid → Option Block → CpuLocal
      at_block current None = p
      at_block current (Some x) = after_at setup c p current (answer (asked_at c p current).name x)

      abbrev in_block : Option Tid → Option Block → CpuLocal
      in_block hand None = p
      in_block hand (Some x) = after_in setup c p hand (answer (asked_in setup c p hand).name x)

      by_told : p.hand ≡ None → (t : Tid) → p.current ≡ Some t → (o : Option Call) → (thread_at p t).call ≡ o → (x : Option Block)
          → block_of setup (asked_by c t o).lock past ≡ x → Told (by_block t o x) (after (asked_by c t o).lock (asked_by c t o).name past)
      by_told empty t runs_now None outside None at = pending_told c TakeAll p told.drew refl
      by_told empty t runs_now None outside (Some x) at =
          pending_told c TakeAll (after_yielding setup p t (answer TakeAll x))
          (same_call t (record (thread_at p t) { guest = after_yield (stands_at setup p t) (thread_at p t).guest }) refl) refl
      by_told empty t runs_now (Some call) inside None at = missed t call inside at
      by_told empty t runs_now (Some call) inside (Some (OfPending list)) at = absurd (no_pending_at_buffer setup call.buffer past list at)
      by_told empty t runs_now (Some call) inside (Some (OfBuffer k)) at =
          let here = runs_at_home setup c p (λ u. visit setup u past) (λ u. post setup u past) T_agrees t runs_now in
          call_told t call inside here.0 (runs_within setup c p (λ u. visit setup u past) (λ u. post setup u past) T_agrees t runs_now)
          (fits_now t call inside) (going_on t call empty here.0 inside) k at

      at_told : p.hand ≡ None → (current : Option Tid) → p.current ≡ current → (x : Option Block)
          → block_of setup (asked_at c p current).lock past ≡ x → Told (at_block current x) (after (asked_at c p current).lock (asked_at c p current).name past)
      at_told empty None idle None at = pending_told c TakeAll p told.drew refl
      at_told empty None idle (Some x) at = pending_told c TakeAll (after_at setup c p None (answer TakeAll x)) told.drew refl
      at_told empty (Some t) runs_now None at = by_told empty t runs_now (thread_at p t).call refl None at
      at_told empty (Some t) runs_now (Some x) at = by_told empty t runs_now (thread_at p t).call refl (Some x) at

      in_told : (hand : Option Tid) → p.hand ≡ hand → (x : Option Block) → block_of setup (asked_in setup c p hand).lock past ≡ x
          → Told (in_block hand x) (after (asked_in setup c p hand).lock (asked_in setup c p hand).name past)
      in_told (Some s) holds None at = pending_told (home_cpu setup s) (Pend s) p told.drew refl
      in_told (Some s) holds (Some x) at =
          pending_told (home_cpu setup s) (Pend s) (settled setup (record p { hand = None }))
          (settled_drew setup c (record p { hand = None }) past told.drew) (settled_trace setup c (record p { hand = None }))
      in_told None empty None at = at_told empty p.current refl None at
      in_told None empty (Some x) at = at_told empty p.current refl (Some x) at

      reply_told : (x : Option Block) → block_of setup (asked setup c p).lock past ≡ x
          → Told (after_reply setup c p (option_map (answer (asked setup c p).name) x)) (after (asked setup c p).lock (asked setup c p).name past)
      reply_told None at = in_told p.hand refl None at
      reply_told (Some x) at = in_told p.hand refl (Some x) at

    -- The choice.

    abbrev ToldOf : Choice → Type 0
    ToldOf = OfChoice (λ q. Told q past)

    changed : (q : CpuLocal) → AllDrew setup c q past → q.trace ≡ p.trace → Told q past
    changed q drew same = record { drew = drew; trace = same ∙ told.trace }

    computed : (t : Tid) (guest : State) → Told (with_state p t guest) past
    computed t guest = changed (with_state p t guest) (same_call t (record (thread_at p t) { guest = guest }) refl) refl

    begun : (t : Tid) (call : Call) → Drew setup t past call → ToldOf (begin_or_halt setup c p t call)
    begun t call drew = by_room ((length p.trace + open_calls p (home_threads setup c)) == setup.trace_room)
      where
        by_room : (full : Bool) → ToldOf (if full then Halts TraceFull else Goes (with_call p t (Some call)))
        by_room true = tt
        by_room false =
            changed (with_call p t (Some call)) (set_drew setup c p t (record (thread_at p t) { call = Some call }) past told.drew (λ local_is. drew)) refl

    instructed : (t : Tid) (line : Instruction) → ToldOf (at_instruction setup c p t line)
    instructed t (Send b from k) =
        begun t (new_call Sends b (message_from (thread_at p t).guest from))
        (record { fresh = λ early. (refl, λ quiet. absurd (cc quiet)); place = λ lined. absurd (cc lined) })
    instructed t (Recv b into k) =
        begun t (new_call Receives b no_message) (record { fresh = λ early. (refl, λ quiet. refl); place = λ lined. absurd (cc lined) })
    instructed t (Close b) = begun t (new_call Closes b no_message) (record { fresh = λ early. (refl, λ quiet. refl); place = λ lined. absurd (cc lined) })
    instructed t YieldLine = told
    instructed t Exit = changed (ends p t) (same_call t (record (thread_at p t) { ended = true }) refl) refl
    instructed t (Set r n) = computed t (after_local (Set r n) (thread_at p t).guest)
    instructed t (Add r q) = computed t (after_local (Add r q) (thread_at p t).guest)
    instructed t (Sub r q) = computed t (after_local (Sub r q) (thread_at p t).guest)
    instructed t (Jnz r k) = computed t (after_local (Jnz r k) (thread_at p t).guest)

    chosen : ToldOf (choice setup c p)
    chosen = by_hand p.hand
      where
        by_call : (t : Tid) (o : Option Call) → ToldOf (at_call setup c p t o)
        by_call t None = instructed t (stands_at setup p t)
        by_call t (Some call) = told

        by_ready : (ready : List Tid) → ToldOf (at_ready p ready)
        by_ready [] = told
        by_ready (t ∷ rest) = changed (record p { current = Some t; ready = rest }) told.drew refl

        by_current : (current : Option Tid) → ToldOf (at_current setup c p current)
        by_current None = by_ready p.ready
        by_current (Some t) = by_call t (thread_at p t).call

        by_ended : (all : Bool) → ToldOf (if all then Halts AllEnded else at_current setup c p p.current)
        by_ended true = tt
        by_ended false = by_current p.current

        by_hand : (hand : Option Tid) → ToldOf (at_hand setup c p hand)
        by_hand (Some s) = told
        by_hand None = by_ended (have_ended p (home_threads setup c))

  -- One step.

  module _ (log : List (Action Name)) where
    -- the action that is due to a CPU in this phase, and what it leaves
    abbrev acted : CpuLocal → Phase → CpuLocal
    acted q now = after_reply setup c q (at_give now (option_map (answer (asked setup c q).name) (block_of setup (asked setup c q).lock (sections_in log))))

    abbrev action : CpuLocal → Phase → Action Name
    action q now = action_in c (asked setup c q).lock (asked setup c q).name log now

    acted_told : (p : CpuLocal) → Told p (sections_in log) → Ok setup c p log → AllFine setup p → (now : Phase) → phase c log ≡ now
        → Told (acted p now) (sections_in (action p now ∷ log))
    acted_told p told ok fine Rests is = told
    acted_told p told ok fine (WaitsAt there) is = told
    acted_told p told ok fine (Holds there) is =
        subst (λ (lock : LockId). Told (acted p (Holds there)) (after lock (asked setup c p).name (sections_in log))) (sym (ok.under there (ap lock_in is)))
        (reply_told (sections_in log) p told ok.agrees ok.settled fine (block_of setup (asked setup c p).lock (sections_in log)) refl)

    -- a CPU without a section under way begins one at most
    rests_told : (q : CpuLocal) → Told q (sections_in log) → (now : Phase) → is_in_section now ≡ false → Told (acted q now) (sections_in (action q now ∷ log))
    rests_told q told Rests off = told
    rests_told q told (WaitsAt there) off = absurd (cc off)
    rests_told q told (Holds there) off = absurd (cc off)

    pub step_told : (p : CpuLocal) → Told p (sections_in log) → Ok setup c p log → AllFine setup p
        → Told (cpu_step setup c p log).next (sections_in ((cpu_step setup c p log).acts ++ log))
    step_told p told ok fine = by_section (is_in_section (phase c log)) refl
      where
        by_choice : is_in_section (phase c log) ≡ false → (what : Choice) → OfChoice (λ q. Told q (sections_in log)) what
            → Told (chosen_step setup c p what log).next (sections_in ((chosen_step setup c p what log).acts ++ log))
        by_choice off (Halts reason) is = told
        by_choice off (Alone q) is = is
        by_choice off (Goes q) is = rests_told q is (phase c log) off

        by_section : (inside : Bool) → is_in_section (phase c log) ≡ inside
            → Told (step_in setup c p log inside).next (sections_in ((step_in setup c p log inside).acts ++ log))
        by_section true is = acted_told p told ok fine (phase c log) refl
        by_section false is = by_choice is (choice setup c p) (chosen (sections_in log) p told)

  -- At boot.

  pub boot_told : Told (boot_of setup c) []
  boot_told = record {
    drew = λ u local_is. subst (λ (x : Thread). DrewAny setup u [] x.call) (sym (all_new setup.homes u.0)) tt;
    trace = refl;
  }

  -- Another CPU's actions.

  -- a thread whose home is this CPU enters no line in another CPU's section
  foreign_enters : (past : List (Section Name)) (e : CpuId) (d : BufId) (name : Name) → same_cpu e c ≡ false → MayComeAt setup past e (AtBuffer d) name
      → (u : Tid) → is_local setup c u ≡ true → (side : Side) → enters_for side u name ≡ false
  foreign_enters past e d name off may u local_is side =
      false_from_ne_true (enters_for side u name) (λ into.
      let caller = callers_are setup past e d name may u (is_the_caller u name (grind (arith, into))) in
      let mine = (and_parts (same_cpu (home_cpu setup u) c) (nat_lt u.0 (length setup.homes)) local_is).0 in
      let its = (and_parts (same_cpu (home_cpu setup u) e) (nat_lt u.0 (length setup.homes)) caller.local_is).0 in
      let one : e ≡ c = sym (same_cpu_true (home_cpu setup u) e its) ∙ same_cpu_true (home_cpu setup u) c mine in
      refuted off (subst (λ (d : CpuId). same_cpu e d ≡ true) one (same_cpu_self e)))

  foreign_told : (past : List (Section Name)) (p : CpuLocal) (e : CpuId) (lock : LockId) (name : Name) → same_cpu e c ≡ false
      → MayComeAt setup past e lock name → Told p past → Told p (record { cpu = e; lock = lock; edit = name } ∷ past)
  foreign_told past p e (Pending d) name off may told = record {
    drew =
        λ u local_is. drew_kept setup u past (record { cpu = e; lock = Pending d; edit = name } ∷ past) (thread_at p u).call (λ b side. refl)
        (told.drew u local_is);
    trace = told.trace;
  }
  foreign_told past p e (AtBuffer d) name off may told =
      let now : List (Section Name) = record { cpu = e; lock = AtBuffer d; edit = name } ∷ past in
      record {
        drew = λ u local_is. drew_kept setup u past now (thread_at p u).call
            (drawn_stays setup e past (AtBuffer d) name u (foreign_enters past e d name off may u local_is)) (told.drew u local_is);
        trace = told.trace ∙ ap (λ (l : List Entry). reverse l) (sym (other_more c (effect_at setup e (AtBuffer d) name past) (effects setup past)
            (λ x is. ap (λ (f : CpuId). f.0 == c.0) (effect_cpu setup e (AtBuffer d) name past x is) ∙ off)));
      }

  pub beside_told : (p : CpuLocal) (e : CpuId) (log acts : List (Action Name)) → same_cpu e c ≡ false → AllDo e acts → IsFairLog setup (acts ++ log)
      → Told p (sections_in log) → Told p (sections_in (acts ++ log))
  beside_told p e log [] off does fair told = told
  beside_told p e log (Take cpu lock ∷ acts) off does fair told = beside_told p e log acts off does.1 fair.1 told
  beside_told p e log (Try cpu lock hit ∷ acts) off does fair told = beside_told p e log acts off does.1 fair.1 told
  beside_told p e log (Give cpu lock name ∷ acts) off does fair told =
      foreign_told (sections_in (acts ++ log)) p cpu lock name (ap (λ (d : CpuId). same_cpu d c) does.0 ∙ off) fair.0
      (beside_told p e log acts off does.1 fair.1 told)
