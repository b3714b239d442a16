-- Each CPU's trace has its effects among those of the log, and each of its calls that stands in a
-- line has the position that its thread drew last.
use Rattle.std.proofs.Common.{◌≡◌, ◌⊎◌, inl, inr, ℕ, ◌<◌, ◌≤◌, ◌==◌, Bool, true, false, ◌&&◌, List, [], ◌∷◌, ◌++◌, length, reverse, get_or, Option, Some, None}
use Rattle.std.proofs.{Common.{option_map, option_to_list, if◌then◌else◌, refl, ap, sym, ◌∙◌, subst, arith}, lemmas.Bool.{and_parts, and_right, cases_lt}}
use Rattle.std.proofs.lemmas.{Bool.{eq-eqb, eqb-true, false_from_ne_true}, List.{append-nil, reverse-append, set_past}}
use Rattle.event_log.specs.declared.entries.{Entry.Entry, Kind.TheVariants.{Send as SendKind, Recv as RecvKind, Close as CloseKind, SendClosed, RecvClosed}}
use Rattle.event_log.specs.{declared.ids.{BufId.BufId, CpuId.CpuId, Tid.Tid, LockId.{LockId, TheVariants.{Pending, Buffer as AtBuffer}}}, History.same_cpu}
use Rattle.event_log.specs.{History.same_lock, Messages.{Message, no_message}, Runs.{Group, Sends, Receives, Closes}, Sections.Section}
use Rattle.{event_log.proofs.Same.{same_cpu_self, same_cpu_true, same_lock_self}, thread_blocks.{specs.Queues.same_tid, proofs.Members.same_tid_self}}
use Rattle.{thread_blocks.proofs.Members.same_tid_true, layer_traits.specs.declared.locked.Side.{Side, TheVariants.{Receivers, Senders}}}
use Rattle.layer_traits.specs.declared.call_states.Stage.{Stage, TheVariants.{Idle, Acquires, Enters, Tries, Waits, AcquiresAgain, Signals, SignalsOwn}}
use Rattle.{layer_traits.specs.{declared.call_states.Stage.TheVariants.Releases, Blocks.BufferEffects.entry}, cpu.specs.{Cpus.of_cpu, Table.Blocks.Buffer}}
use Rattle.cpu.specs.Table.{Blocks.{Block, OfBuffer, OfPending, Name, Enter, TryPut, TryTake, Answer, Reported, NotYet, side_of_group}, Edits.answer}
use Rattle.cpu.specs.Table.{Edits.{answer_of_buffer, drawn_position, may_try, report_of_put, report_of_take}, Setups.{SystemConfig, Call, Thread, CpuLocal}}
use Rattle.cpu.specs.Table.{Setups.{new_thread, thread_at, with_thread, stands_at}, Choice.{section_due, first_section, try_due, asked, asked_at, asked_by}}
use Rattle.cpu.specs.Table.Choice.{asked_in, with_call, entry_made, with_told, recorded_entry, recorded_try, guest_after, slept_if, woken, settled, returned_at}
use Rattle.cpu.{specs.{Table.{Choice.{returned_by, returned_in}, Steps.after_reply}, Wakeups.Order.block_of}, proofs.Wakeups.Agreement.{at_same, at_other}}
use Rattle.cpu.proofs.Wakeups.{Agreement.is_last, EndedThreads.{is_before, FitsGroup, HasLine, AllFine}, Lists.refuted, PostsAndVisits.is_local}
use Rattle.cpu.proofs.TableOrder.Effects.{drawn, effect_at, effect_in, effect_on, effect_placed, effects, enters_for, take_entry}

-- What a call has drawn.

abbrev pub is_sending : Group → Bool
is_sending Sends = true
is_sending asks = false

abbrev pub is_in_line : Stage → Bool
is_in_line Tries = true
is_in_line Waits = true
is_in_line AcquiresAgain = true
is_in_line stage = false

-- a call that has not taken effect has found nothing closed, and has a message only if it sends; in
-- its line it has the position that its thread drew
pub record Drew (setup : SystemConfig) (u : Tid) (past : List (Section Name)) (call : Call) : Type 0 where
  pub fresh : is_before call.stage ≡ true → (call.closed ≡ false) × (is_sending call.asks ≡ false → call.message ≡ no_message)
  pub place : is_in_line call.stage ≡ true → call.position ≡ drawn setup call.buffer past (side_of_group call.asks) u

abbrev pub DrewAny : SystemConfig → Tid → List (Section Name) → Option Call → Type 0
DrewAny setup u past None = Unit {0}
DrewAny setup u past (Some call) = Drew setup u past call

pub drew_kept : (setup : SystemConfig) (u : Tid) (past now : List (Section Name)) (o : Option Call)
    → ((b : BufId) (side : Side) → drawn setup b now side u ≡ drawn setup b past side u) → DrewAny setup u past o → DrewAny setup u now o
drew_kept setup u past now None same drew = tt
drew_kept setup u past now (Some call) same drew = record {
  fresh = drew.fresh;
  place = λ lined. drew.place lined ∙ sym (same call.buffer (side_of_group call.asks));
}

module _ (setup : SystemConfig) (c : CpuId) where
  abbrev pub AllDrew : CpuLocal → List (Section Name) → Type 0
  AllDrew p past = (u : Tid) → is_local setup c u ≡ true → DrewAny setup u past (thread_at p u).call

  -- one thread has changed
  pub set_drew : (p : CpuLocal) (t : Tid) (x : Thread) (past : List (Section Name)) → AllDrew p past → (is_local setup c t ≡ true → DrewAny setup t past x.call)
      → AllDrew (with_thread p t x) past
  set_drew p t x past drew now u local_is = by_place (cases_lt t.0 (length p.threads))
    where
      by_test : t.0 < length p.threads → (mine : Bool) → same_tid t u ≡ mine → DrewAny setup u past (thread_at (with_thread p t x) u).call
      by_test known true is =
          let one = same_tid_true t u is in
          subst (λ v. DrewAny setup v past (thread_at (with_thread p t x) v).call) one
          (subst (λ (y : Thread). DrewAny setup t past y.call) (sym (at_same p t x known)) (now (subst (λ v. is_local setup c v ≡ true) (sym one) local_is)))
      by_test known false off = subst (λ (y : Thread). DrewAny setup u past y.call) (sym (at_other p t u x off)) (drew u local_is)

      by_place : (t.0 < length p.threads) ⊎ (length p.threads ≤ t.0) → DrewAny setup u past (thread_at (with_thread p t x) u).call
      by_place (inl known) = by_test known (same_tid t u) refl
      by_place (inr beyond) =
          subst (λ (threads : List Thread). DrewAny setup u past (get_or threads u.0 new_thread).call) (sym (set_past p.threads t.0 x beyond)) (drew u local_is)

  pub slept_drew : (slept : Bool) (p : CpuLocal) (past : List (Section Name)) → AllDrew p past → AllDrew (slept_if slept p) past
  slept_drew true p past drew = drew
  slept_drew false p past drew = drew

  pub woken_drew : (woke : Option Tid) (p : CpuLocal) (past : List (Section Name)) → AllDrew p past → AllDrew (woken setup c woke p) past
  woken_drew woke p past drew = grind arith

  pub settled_drew : (p : CpuLocal) (past : List (Section Name)) → AllDrew p past → AllDrew (settled setup p) past
  settled_drew p past drew = by_hand p.hand p.current
    where
      by_stage : (t : Tid) (call : Call) (stage : Stage) → AllDrew (returned_at setup p t call stage) past
      by_stage t call Idle =
          set_drew p t (record
          (thread_at p t) { guest = guest_after call.asks call.closed (stands_at setup p t) call.message (thread_at p t).guest; call = None }) past drew
          (λ local_is. tt)
      by_stage t call other = drew

      by_call : (t : Tid) (call : Option Call) → AllDrew (returned_by setup p t call) past
      by_call t None = drew
      by_call t (Some call) = by_stage t call call.stage

      by_hand : (hand current : Option Tid) → AllDrew (returned_in setup p hand current) past
      by_hand (Some s) current = drew
      by_hand None None = drew
      by_hand None (Some t) = by_call t (thread_at p t).call

  pub slept_trace : (slept : Bool) (p : CpuLocal) → (slept_if slept p).trace ≡ p.trace
  slept_trace slept p = grind arith

  pub woken_trace : (woke : Option Tid) (p : CpuLocal) → (woken setup c woke p).trace ≡ p.trace
  woken_trace woke p = grind arith

  pub settled_trace : (p : CpuLocal) → (settled setup p).trace ≡ p.trace
  settled_trace p = grind arith

  -- What a call hears of its section.

  -- the caller has drawn what it says, the others' calls are as they were, and the trace has the
  -- effect
  pub record Heard (p q : CpuLocal) (t : Tid) (now : List (Section Name)) (effect : Option Entry) : Type 0 where
    pub call : DrewAny setup t now (thread_at q t).call
    pub others : (u : Tid) → same_tid t u ≡ false → (thread_at q u).call ≡ (thread_at p u).call
    pub trace : q.trace ≡ p.trace ++ option_to_list effect

  module _ (p : CpuLocal) (t : Tid) (known : t.0 < length p.threads) (now : List (Section Name)) where
    heard_call : (call : Call) → Drew setup t now call → Heard p (with_call p t (Some call)) t now None
    heard_call call drew = record {
      call = subst (λ (y : Thread). DrewAny setup t now y.call) (sym (at_same p t (record (thread_at p t) { call = Some call }) known)) drew;
      others = λ u off. ap (λ (y : Thread). y.call) (at_other p t u (record (thread_at p t) { call = Some call }) off);
      trace = sym (append-nil p.trace);
    }

    heard_effect : (call : Call) (e f : Entry) → e ≡ f → is_before call.stage ≡ false → is_in_line call.stage ≡ false
        → Heard p (record (with_call p t (Some call)) { trace = p.trace ++ e ∷ [] }) t now (Some f)
    heard_effect call e f same late out = record {
      call = subst (λ (y : Thread). DrewAny setup t now y.call) (sym (at_same p t (record (thread_at p t) { call = Some call }) known))
          (record { fresh = λ early. refuted late early; place = λ lined. refuted out lined });
      others = λ u off. ap (λ (y : Thread). y.call) (at_other p t u (record (thread_at p t) { call = Some call }) off);
      trace = ap (λ (x : Entry). p.trace ++ x ∷ []) same;
    }

  -- a section that enters no line for a thread leaves its positions
  pub drawn_stays : (past : List (Section Name)) (lock : LockId) (name : Name) (u : Tid) → ((side : Side) → enters_for side u name ≡ false)
      → (b : BufId) (side : Side) → drawn setup b (record { cpu = c; lock = lock; edit = name } ∷ past) side u ≡ drawn setup b past side u
  drawn_stays past lock name u out b side = grind (arith, out side, and_right)

  module _ (p : CpuLocal) (t : Tid) (known : t.0 < length p.threads) (past : List (Section Name)) (call : Call) (drew : Drew setup t past call)
      (k : Buffer) (at : block_of setup (AtBuffer call.buffer) past ≡ Some (OfBuffer k)) where
    abbrev now : Name → List (Section Name)
    now name = record { cpu = c; lock = AtBuffer call.buffer; edit = name } ∷ past

    abbrev effect : Name → Option Entry
    effect name = effect_on c call.buffer name (drawn setup call.buffer (now name)) k

    -- the call goes on before its effect; in its line it keeps its position
    goes_on : (name : Name) (stage : Stage) → ((side : Side) → enters_for side t name ≡ false) → (is_before stage ≡ true → is_before call.stage ≡ true)
        → (is_in_line stage ≡ true → is_in_line call.stage ≡ true) → Heard p (with_call p t (Some (record call { stage = stage }))) t (now name) None
    goes_on name stage out early lined =
        heard_call p t known (now name) (record call { stage = stage }) (record {
          fresh = λ is. drew.fresh (early is);
          place = λ is. drew.place (lined is) ∙ sym (drawn_stays past (AtBuffer call.buffer) name t out call.buffer (side_of_group call.asks));
        })

    entered_now : (side : Side) → drawn_position side k ≡ drawn setup call.buffer (now (Enter t side)) side t
    entered_now Senders = grind (arith, same_lock_self (AtBuffer call.buffer), same_tid_self t, at)
    entered_now Receivers = grind (arith, same_lock_self (AtBuffer call.buffer), same_tid_self t, at)

    enters_line : (side : Side) → side_of_group call.asks ≡ side → is_before call.stage ≡ true
        → Heard p (with_call p t (Some (record call { position = drawn_position side k; stage = Tries }))) t (now (Enter t side)) None
    enters_line side is early =
        heard_call p t known (now (Enter t side)) (record call { position = drawn_position side k; stage = Tries }) (record {
          fresh = λ so. drew.fresh early;
          place = λ so. entered_now side ∙ ap (λ (x : Side). drawn setup call.buffer (now (Enter t side)) x t) (sym is);
        })

    entry_heard : call.stage ≡ Enters → (asks : Group) → call.asks ≡ asks
        → Heard p (recorded_entry c p t call asks (answer_of_buffer (first_section t asks) k).told) t (now (first_section t asks))
        (effect (first_section t asks))
    entry_heard stage Sends is = enters_line Senders (ap side_of_group is) (ap is_before stage)
    entry_heard stage Receives is = enters_line Receivers (ap side_of_group is) (ap is_before stage)
    entry_heard stage Closes is =
        let fresh = drew.fresh (ap is_before stage) in
        heard_effect p t known (now (first_section t Closes)) (record call { position = k.closes; effect = Some k.effects; stage = Signals })
        (entry_made c t (record call { position = k.closes }) k.effects call.message) (entry c t CloseKind call.buffer no_message k.effects k.closes)
        (grind (arith, is, fresh.1 (ap is_sending is))) refl refl

    put_heard : call.stage ≡ Tries → call.asks ≡ Sends → (turn closed : Bool)
        → Heard p (recorded_try c p t call (if turn then report_of_put closed k.effects call.message else NotYet)) t (now (TryPut t call.message))
        (if turn then Some (entry c t (if closed then SendClosed else SendKind) call.buffer call.message k.effects
        (drawn setup call.buffer (now (TryPut t call.message)) Senders t)) else None)
    put_heard stage is turn closed = go turn closed
      where
        name : Name
        name = TryPut t call.message

        position : call.position ≡ drawn setup call.buffer (now (TryPut t call.message)) Senders t
        position = drew.place (ap is_in_line stage) ∙ ap (λ (a : Group). drawn setup call.buffer past (side_of_group a) t) is
            ∙ sym (drawn_stays past (AtBuffer call.buffer) (TryPut t call.message) t (λ side. no_enter side) call.buffer Senders)
          where
            no_enter : (side : Side) → enters_for side t (TryPut t call.message) ≡ false
            no_enter side = grind arith

        go : (turn closed : Bool)
            → Heard p (recorded_try c p t call (if turn then report_of_put closed k.effects call.message else NotYet)) t (now (TryPut t call.message))
            (if turn then Some (entry c t (if closed then SendClosed else SendKind) call.buffer call.message k.effects
            (drawn setup call.buffer (now (TryPut t call.message)) Senders t)) else None)
        go true true =
            heard_effect p t known (now (TryPut t call.message)) (record call { closed = true; effect = Some k.effects; stage = Signals })
            (entry_made c t (record call { closed = true }) k.effects call.message) _ (grind (arith, is, position)) refl refl
        go true false =
            heard_effect p t known (now (TryPut t call.message)) (record call { message = call.message; effect = Some k.effects; stage = Signals })
            (entry_made c t (record call { message = call.message }) k.effects call.message) _
            (grind (arith, is, position, drew.fresh (ap is_before stage))) refl refl
        go false closed =
            goes_on (TryPut t call.message) Waits (λ side. grind arith) (λ so. ap is_before stage) (λ so. ap is_in_line stage)

    take_heard : call.stage ≡ Tries → call.asks ≡ Receives → (turn : Bool) (items : List Message)
        → Heard p (recorded_try c p t call (if turn then report_of_take items k.effects else NotYet)) t (now (TryTake t))
        (if turn then Some (take_entry c t call.buffer items k.effects (drawn setup call.buffer (now (TryTake t)) Receivers t)) else None)
    take_heard stage is turn items = go turn items
      where
        position : call.position ≡ drawn setup call.buffer (now (TryTake t)) Receivers t
        position = drew.place (ap is_in_line stage) ∙ ap (λ (a : Group). drawn setup call.buffer past (side_of_group a) t) is
            ∙ sym (drawn_stays past (AtBuffer call.buffer) (TryTake t) t (λ side. no_enter side) call.buffer Receivers)
          where
            no_enter : (side : Side) → enters_for side t (TryTake t) ≡ false
            no_enter side = grind arith

        fresh : (call.closed ≡ false) × (is_sending call.asks ≡ false → call.message ≡ no_message)
        fresh = drew.fresh (ap is_before stage)

        go : (turn : Bool) (items : List Message)
            → Heard p (recorded_try c p t call (if turn then report_of_take items k.effects else NotYet)) t (now (TryTake t))
            (if turn then Some (take_entry c t call.buffer items k.effects (drawn setup call.buffer (now (TryTake t)) Receivers t)) else None)
        go true [] =
            heard_effect p t known (now (TryTake t)) (record call { closed = true; effect = Some k.effects; stage = Signals })
            (entry_made c t (record call { closed = true }) k.effects call.message) _
            (grind (arith, is, position, fresh.1 (ap is_sending is))) refl refl
        go true (m ∷ items) =
            heard_effect p t known (now (TryTake t)) (record call { message = m; effect = Some k.effects; stage = Signals })
            (entry_made c t (record call { message = m }) k.effects m) _ (grind (arith, is, position, fresh)) refl refl
        go false items = goes_on (TryTake t) Waits (λ side. grind arith) (λ so. ap is_before stage) (λ so. ap is_in_line stage)

    try_heard : call.stage ≡ Tries → (asks : Group) → call.asks ≡ asks → HasLine asks
        → Heard p (recorded_try c p t call (answer_of_buffer (try_due t call (side_of_group asks)) k).told) t (now (try_due t call (side_of_group asks)))
        (effect (try_due t call (side_of_group asks)))
    try_heard stage Sends is lined = put_heard stage is (may_try Senders t k) k.closed
    try_heard stage Receives is lined = take_heard stage is (may_try Receivers t k) k.items
    try_heard stage Closes is lined = absurd lined

    signals_now : (name : Name) → ((side : Side) → enters_for side t name ≡ false) → effect name ≡ None → (stage : Stage) → is_before stage ≡ false
        → is_in_line stage ≡ false → Heard p (with_call p t (Some (record call { stage = stage }))) t (now name) (effect name)
    signals_now name out none stage late off =
        subst (Heard p (with_call p t (Some (record call { stage = stage }))) t (now name)) (sym none)
        (goes_on name stage out (λ so. refuted late so) (λ so. refuted off so))

    pub section_heard : (FitsGroup call.asks call.stage) → is_last call.stage ≡ false → (stage : Stage) → call.stage ≡ stage
        → Heard p (with_told c p t call stage (answer_of_buffer (section_due t call stage) k).told) t (now (section_due t call stage))
        (effect (section_due t call stage))
    section_heard coupled going Acquires is = goes_on (section_due t call Acquires) Enters (λ side. grind arith) (λ so. ap is_before is) (λ so. absurd (cc so))
    section_heard coupled going Enters is = entry_heard is call.asks refl
    section_heard coupled going Tries is = try_heard is call.asks refl (subst (FitsGroup call.asks) is coupled)
    section_heard coupled going Waits is =
        goes_on (section_due t call Waits) AcquiresAgain (λ side. grind arith) (λ so. ap is_before is) (λ so. ap is_in_line is)
    section_heard coupled going AcquiresAgain is =
        goes_on (section_due t call AcquiresAgain) Tries (λ side. grind arith) (λ so. ap is_before is) (λ so. ap is_in_line is)
    section_heard coupled going Signals is = signals_now (section_due t call Signals) (λ side. grind arith) (grind arith) SignalsOwn refl refl
    section_heard coupled going SignalsOwn is = signals_now (section_due t call SignalsOwn) (λ side. grind arith) (grind arith) Releases refl refl
    section_heard coupled going Releases is = goes_on (section_due t call Releases) Idle (λ side. grind arith) (λ so. absurd (cc so)) (λ so. absurd (cc so))
    section_heard coupled going Idle is = refuted going (ap is_last is)
