-- A thread's own sections: what each leaves of its stance, and its effect.
use Rattle.std.proofs.Common.{ℕ, ◌≡◌, ◌<◌, Bool, true, false, ◌&&◌, List, ◌∷◌, Option, Some, None, option_map, if◌then◌else◌, refl, ap, sym, ◌∙◌}
use Rattle.std.proofs.{Common.{rules, is_some, not, subst, arith, lt-ltb}, lemmas.Bool.{and_parts, and_right}, Math.Bool.and-true}
use Rattle.fifo_buffer.specs.Stances.{IsMark, waits_at, asks_at, called_at, lined_at, holds_at, LockHolding, InCall, Stance, CallStateFits}
use Rattle.fifo_buffer.specs.{Stances.{done_at, recorded_by, line_at, same_side, slept_by, call_state_in, waits_by, EntersLine}, Laws.BlockSteps.kind_counts}
use Rattle.{fifo_buffer.proofs.OtherSteps.side_self, layer_traits.specs.declared.conditions.CvLeave.{CvLeave, TheVariants.{Leave, Wait}}}
use Rattle.layer_traits.specs.declared.{conditions.{CvEdit.TheVariants.Edit, CvReply.CvReply}, buffer_edits.BufferEdit.{BufferEdit, TheVariants.{Enter, Shut}}}
use Rattle.layer_traits.specs.declared.{buffer_edits.BufferReply.BufferReply, calls.{Call.{Call, TheVariants.{Send, Recv, Close}}, Effect.Effect}}
use Rattle.layer_traits.specs.declared.locked.{QLockCall.TheVariants.{Acquire, Inside, Release}, QLockReply.{QLockReply, TheVariants.Did}, Side.Side}
use Rattle.layer_traits.specs.declared.{locked.Side.TheVariants.{Receivers, Senders}, call_states.Stage.{Stage, TheVariants.{Idle, Acquires, Enters, Tries}}}
use Rattle.layer_traits.specs.{declared.call_states.Stage.TheVariants.{Waits, AcquiresAgain, Signals, SignalsOwn, Releases}, Blocks.BufferBlocks.BufferState}
use Rattle.layer_traits.specs.Blocks.{BufferBlocks.{effect_kind, entered, first_item, is_next, line_of, may_join, drawn_of}, BufferEffects.drawn}
use Rattle.layer_traits.specs.Blocks.{BufferEffects.{effect_of, effect_on, is_enter, drawn_in}, BufferProtocol.{BufferLock, BufferSection, buffer_lock_at}}
use Rattle.layer_traits.specs.{Blocks.BufferProtocol.{buffer_rules, has_tried_in_vain}, Layers.BufferLaw.{IsEffectOf, buffer_of, entry_of, section_at, side_of}}
use Rattle.layer_traits.specs.Layers.{Conditions.CvCall, QLocking.{lock_edited, lock_out, asker_report}}
use Rattle.layer_traits.{specs.{Threads.Places.{count_in, one_if}, Protocols.Protocol.section}, proofs.CountLemmas.{count_append, not_counted}}
use Rattle.event_log.specs.declared.{entries.Entry.Entry, ids.{BufId.BufId, CpuId.CpuId, LockId.{LockId, TheVariants.Buffer}, Tid.Tid, TheConstants.THREADS}}
use Rattle.event_log.{specs.{History.same_lock, Messages.{Message, no_message}, Runs.group_of}, proofs.Same.{same_lock_self, same_lock_true}}
use Rattle.{event_log.proofs.BoolLemmas.none_of, thread_blocks.{proofs.{Members.same_tid_self, Distinct.out_of_rest}}}
use Rattle.event_log.specs.declared.entries.Kind.TheVariants as kind
use Rattle.layer_traits.specs.declared.buffer_edits.BufferReply.TheVariants as abstract_answer
use Rattle.layer_traits.specs.declared.conditions.CvReply.TheVariants as answer

-- what a section with this result did: the stance and the call state after it, and its effect
pub record Stepped (opening : LockId → Option BufferLock) (past : List BufferSection) (c : CpuId) (t : Tid) (call : Call) (stage : Stage)
    (position : ℕ) (effect : Option Effect) (out : QLockReply (CvReply BufferReply)) : Type 0 where
  pub coupled : CallStateFits opening (section c (Buffer (buffer_of call)) (section_at t call stage) ∷ past) t
      (recorded_by (call_state_in stage call position effect) stage out).call
      (slept_by (buffer_of call) out) (waits_by (buffer_of call) out) (recorded_by (call_state_in stage call position effect) stage out)
  pub mine : Option Effect
  pub is : effect_of opening past (section c (Buffer (buffer_of call)) (section_at t call stage)) ≡ option_map (entry_of c t (buffer_of call)) mine
  pub fresh : (f : Effect) → mine ≡ Some f → (effect ≡ None) × ((recorded_by
      (call_state_in stage call position effect) stage out).effect ≡ Some f) × IsEffectOf call f
  pub stays : mine ≡ None → (recorded_by (call_state_in stage call position effect) stage out).effect ≡ effect

lines_entered : (t : Tid) (side at : Side) (x : BufferState) → count_in t (line_of at x) ≡ 0
    → count_in t (line_of at (entered side t x)) ≡ one_if (same_side at side)
lines_entered t side at x none = grind (arith, same_tid_self, count_append)

may_enter : (t : Tid) (q : List Tid) → t.0 < THREADS → count_in t q ≡ 0 → may_join t q ≡ true
may_enter t q small none = grind (arith, lt-ltb, not_counted)

enter_own : (side : Side) (t : Tid) → is_enter side t (Inside (Edit (Enter t side))) ≡ true
enter_own side t = grind (arith, same_tid_self)

there_too : (opening : LockId → Option BufferLock) (past : List BufferSection) (b : BufId) (lock : BufferLock)
    → buffer_lock_at opening past (Buffer b) ≡ Some lock → (l : LockId) → same_lock l (Buffer b) ≡ true → buffer_lock_at opening past l ≡ Some lock
there_too opening past b lock is l same = subst (λ k. buffer_lock_at opening past k ≡ Some lock) (sym (same_lock_true l (Buffer b) same)) is

-- a section at the thread's own buffer, and the stance of the thread after it
module _ {opening : LockId → Option BufferLock} {past : List BufferSection} (c : CpuId) {t : Tid} {b : BufId} {side : Side}
    {lock : BufferLock} (is : buffer_lock_at opening past (Buffer b) ≡ Some lock) where
  module _ (e : CvCall BufferEdit) {holds asks lined : Bool} {position : ℕ} (stance : Stance opening past t b side holds asks lined position)
      (holds' asks' : Bool) (grips : LockHolding t holds asks (Some lock) → LockHolding t holds' asks' (Some (lock_edited buffer_rules e lock))) where
    grip_at : (l : LockId) (v : Bool) → same_lock l (Buffer b) ≡ v
        → LockHolding t (holds' && v) (asks' && v)
        (if v then option_map (lock_edited buffer_rules e) (buffer_lock_at opening past l) else buffer_lock_at opening past l)
    grip_at l true same =
        let now : LockHolding t (holds && true) (asks && true) (Some lock) = rw (there_too opening past b lock is l same, same) at (stance.grip l) in
        let then' : LockHolding t holds' asks' (Some (lock_edited buffer_rules e lock)) = grips (rw (← and-true holds, ← and-true asks) now) in
        rw (there_too opening past b lock is l same, and-true holds', and-true asks') then'
    grip_at l false same =
        rw (and_right holds' false refl, and_right asks' false refl) (rw (same, and_right holds false refl, and_right asks false refl) at (stance.grip l))

    own_stance : (lined' : Bool) (position' : ℕ)
        → ((at : Side) → count_in t (line_of at lock.above) ≡ one_if (lined && same_side at side)
        → count_in t (line_of at (lock_edited buffer_rules e lock).above) ≡ one_if (lined' && same_side at side))
        → (lined' ≡ true → position' ≡ drawn opening (Buffer b) side t (section c (Buffer b) e ∷ past))
        → Stance opening (section c (Buffer b) e ∷ past) t b side holds' asks' lined' position'
    own_stance lined' position' lines drawn_is = record {
      grip = λ l. grip_at l (same_lock l (Buffer b)) refl;
      line = λ l at. line_there l at (same_lock l (Buffer b)) refl;
      drawn_is = drawn_is;
    }
      where
        line_there : (l : LockId) (at : Side) (v : Bool) → same_lock l (Buffer b) ≡ v
            → count_in t (line_at at (if v then option_map (lock_edited buffer_rules e) (buffer_lock_at opening past l) else buffer_lock_at opening past l))
            ≡ one_if (lined' && (v && same_side at side))
        line_there l at v same = grind (arith, there_too opening past b lock is, and_right)

    -- a section that changes no line
    kept_line : is_enter side t e ≡ false → ((at : Side) → count_in t (line_of at (lock_edited buffer_rules e lock).above) ≡ count_in t (line_of at lock.above))
        → Stance opening (section c (Buffer b) e ∷ past) t b side holds' asks' lined position
    kept_line none same = own_stance lined position (λ at now. same at ∙ now) (λ lines. stance.drawn_is lines ∙ sym drawn_own)
      where
        drawn_own : drawn opening (Buffer b) side t (section c (Buffer b) e ∷ past) ≡ drawn opening (Buffer b) side t past
        drawn_own = grind (arith, and_right)

  -- an Acquire, if the lock was free, and if it had an owner
  took_lock : {lined : Bool} {position : ℕ} → lock.owner ≡ None → Stance opening past t b side false false lined position
      → Stance opening (section c (Buffer b) (Acquire t) ∷ past) t b side true false lined position
  took_lock free stance =
      kept_line (Acquire t) stance true false (grind arith) refl (λ at. ap (λ x. count_in t (line_of at x)) (grind arith))

  asked_lock : {lined : Bool} {position : ℕ} → Stance opening past t b side false false lined position
      → Stance opening (section c (Buffer b) (Acquire t) ∷ past) t b side false true lined position
  asked_lock stance = kept_line (Acquire t) stance false true (λ grip. tt) refl (λ at. ap (λ x. count_in t (line_of at x)) (grind arith))

  -- how often the thread is in its own line
  in_own_line : (holds asks lined : Bool) (position : ℕ) → Stance opening past t b side holds asks lined position
      → count_in t (line_of side lock.above) ≡ one_if lined
  in_own_line holds asks lined position stance =
      sym (ap (λ x. count_in t (line_at side x)) is) ∙ stance.line (Buffer b) side
      ∙ ap (λ v. one_if (lined && (v && same_side side side))) (same_lock_self (Buffer b))
      ∙ ap (λ v. one_if (lined && v)) (side_self side) ∙ ap one_if (and-true lined)

  entered_line : (position : ℕ) → t.0 < THREADS → Stance opening past t b side true false false position
      → Stance opening (section c (Buffer b) (Inside (Edit (Enter t side))) ∷ past) t b side true false true (drawn_of side lock.above)
  entered_line position small stance =
      own_stance (Inside (Edit (Enter t side))) stance true false (λ grip. grip) true (drawn_of side lock.above)
      (λ at now. ap (λ (v : Bool). count_in t (line_of at (if v then entered side t lock.above else lock.above)))
      (may_enter t (line_of side lock.above) small (in_own_line true false false position stance)) ∙ lines_entered t side at lock.above now)
      (λ lines. sym (ap (λ (v : Bool). if v then drawn_in side (buffer_lock_at opening past (Buffer b)) else drawn opening (Buffer b) side t past) test
      ∙ ap (drawn_in side) is))
    where
      test : (same_lock (Buffer b) (Buffer b) && is_enter side t (Inside (Edit (Enter t side)))) ≡ true
      test = rw (same_lock_self (Buffer b), enter_own side t) refl

  -- a release, by a wait or a leave
  released : {lined : Bool} {position : ℕ} (leave : CvLeave) → Stance opening past t b side true false lined position
      → Stance opening (section c (Buffer b) (Release leave) ∷ past) t b side false false lined position
  released (Wait u at) stance = kept_line (Release (Wait u at)) stance false false (λ grip. out_of_rest t lock.sleepers grip.1) refl (λ at. refl)
  released (Leave u) stance = kept_line (Release (Leave u)) stance false false (λ grip. out_of_rest t lock.sleepers grip.1) refl (λ at. refl)

-- a thread within its call, from what is known of it
call_within : {opening : LockId → Option BufferLock} {past : List BufferSection} {t : Tid} {call : Call} {slept waits : Option BufId} {stage : Stage}
    {position : ℕ} {effect : Option Effect} → called_at stage ≡ true
    → Stance opening past t (buffer_of call) (side_of call) (holds_at stage (is_some waits)) (is_some slept) (lined_at stage) position
    → ((waits_at stage && not (is_some waits)) ≡ true → has_tried_in_vain opening (Buffer (buffer_of call)) (side_of call) t past ≡ true)
    → (lined_at stage ≡ true → EntersLine call) → is_some effect ≡ done_at stage → IsMark (buffer_of call) (asks_at stage) slept
    → IsMark (buffer_of call) (waits_at stage) waits → InCall opening past t call slept waits stage position effect
call_within called stance vain joins effect_is slept_here waits_here = search rules

-- what a call takes or gives at its try, and its effect there
abbrev tried_value : Call → BufferState → Message
tried_value (Send b m) x = m
tried_value other x = first_item x.items

abbrev tried_effect : Call → BufferState → ℕ → Effect
tried_effect call x position = record { kind = effect_kind (side_of call) x; value = tried_value call x; op = x.effects; pos = position }

is_own_effect : (call : Call) (x : BufferState) (position : ℕ) → EntersLine call → IsEffectOf call (tried_effect call x position)
is_own_effect (Send b m) x position enters = (kind_counts Senders x, refl)
is_own_effect (Recv b) x position enters = kind_counts Receivers x
is_own_effect (Close b) x position enters = absurd enters

effect_tried : (c : CpuId) (t : Tid) (call : Call) (lock : BufferLock) (position : Side → Tid → ℕ) (v : Bool) → EntersLine call
    → is_next (side_of call) t lock.above ≡ v → effect_on c (buffer_of call) (section_at t call Tries) position (Some lock)
    ≡ (if v then Some (entry_of c t (buffer_of call) (tried_effect call lock.above (position (side_of call) t))) else None)
effect_tried c t call lock position v enters next = grind arith

left_line : (t : Tid) (call : Call) (lock : BufferLock) (at : Side) → EntersLine call → is_next (side_of call) t lock.above ≡ true
    → count_in t (line_of at lock.above) ≡ one_if (same_side at (side_of call))
    → count_in t (line_of at (lock_edited buffer_rules (section_at t call Tries) lock).above) ≡ 0
left_line t call lock at enters next now = grind (arith, and_parts)

-- each section of a call, by its stage
module _ (opening : LockId → Option BufferLock) (past : List BufferSection) (c : CpuId) (t : Tid) (lock : BufferLock) (position : ℕ)
    (effect : Option Effect) where
  abbrev At : Call → Type 0
  At call = buffer_lock_at opening past (Buffer (buffer_of call)) ≡ Some lock

  abbrev Within : Call → Stage → Type 0
  Within call stage = InCall opening past t call None None stage position effect

  abbrev Steps : Call → Stage → QLockReply (CvReply BufferReply) → Type 0
  Steps call stage out = Stepped opening past c t call stage position effect out

  abbrev effect_here : Call → Stage → Option BufferLock → Option Entry
  effect_here call stage x = effect_on c (buffer_of call) (section_at t call stage) (λ side u. drawn opening (Buffer (buffer_of call)) side u past) x

  -- a section without an effect
  silent : (call : Call) (stage : Stage) (out : QLockReply (CvReply BufferReply)) → At call → effect_here call stage (Some lock) ≡ None
      → CallStateFits opening (section c (Buffer (buffer_of call)) (section_at t call stage) ∷ past) t
      (recorded_by (call_state_in stage call position effect) stage out).call (slept_by (buffer_of call) out) (waits_by (buffer_of call) out)
      (recorded_by (call_state_in stage call position effect) stage out)
      → (recorded_by (call_state_in stage call position effect) stage out).effect ≡ effect → Steps call stage out
  silent call stage out is none coupled stays =
      record { coupled = coupled; mine = None; is = ap (effect_here call stage) is ∙ none; fresh = λ f w. absurd cc; stays = λ w. stays }

  asks_step : (call : Call) → At call → Within call Acquires → (owner : Option Tid) → lock.owner ≡ owner → Steps call Acquires (asker_report owner)
  asks_step call is now None free =
      silent call Acquires _ is refl (call_within refl (took_lock c is free now.stance) (λ w. absurd cc) (λ w. absurd cc) now.effect_is tt tt) refl
  asks_step call is now (Some o) owned =
      silent call Acquires _ is refl (call_within refl (asked_lock c is now.stance) (λ w. absurd cc) (λ w. absurd cc) now.effect_is (refl, refl) tt) refl

  asks_again_step : (call : Call) → At call → Within call AcquiresAgain → (owner : Option Tid) → lock.owner ≡ owner
      → Steps call AcquiresAgain (asker_report owner)
  asks_again_step call is now None free =
      silent call AcquiresAgain _ is refl (call_within refl (took_lock c is free now.stance) (λ w. absurd cc) (λ w. now.joins refl) now.effect_is tt tt) refl
  asks_again_step call is now (Some o) owned = silent call AcquiresAgain _ is refl
      (call_within refl (asked_lock c is now.stance) (λ w. absurd cc) (λ w. now.joins refl) now.effect_is (refl, refl) tt) refl

  enters_step : (call : Call) → t.0 < THREADS → At call → Within call Enters → Steps call Enters (lock_out buffer_rules (section_at t call Enters) lock)
  enters_step (Send b m) small is now = silent (Send b m) Enters _ is refl
      (call_within refl (entered_line c is position small now.stance) (λ w. absurd cc) (λ w. tt) now.effect_is tt tt) refl
  enters_step (Recv b) small is now = silent (Recv b) Enters _ is refl
      (call_within refl (entered_line c is position small now.stance) (λ w. absurd cc) (λ w. tt) now.effect_is tt tt) refl
  -- a close changes no line and keeps the owner
  enters_step (Close b) small is now = record {
    coupled = call_within refl (own_stance c is (Inside (Edit (Shut t))) now.stance true false (λ grip. grip) false position
        (λ at none. ap (count_in t) (grind arith) ∙ none) (λ lines. absurd cc)) (λ w. absurd cc) (λ w. absurd cc) refl tt tt;
    mine = Some closed;
    is = ap (effect_here (Close b) Enters) is;
    fresh = λ f same.
        let done : closed ≡ f = cc in (none_of effect now.effect_is, same, ap (λ (g : Effect). group_of g.kind) (sym done));
    stays = λ w. absurd cc;
  }
    where
      closed : Effect
      closed = record { kind = kind.Close; value = no_message; op = lock.above.effects; pos = lock.above.closes }

  -- a try, of a call that enters a line: if its thread is next, it has its effect; otherwise it
  -- fails
  tries_step : (call : Call) → EntersLine call → At call → Within call Tries → (v : Bool) → is_next (side_of call) t lock.above ≡ v
      → Steps call Tries
      (Did (answer.Did (if v then abstract_answer.Done (effect_kind (side_of call) lock.above) lock.above.effects (tried_value call lock.above)
      else abstract_answer.NotYet)))
  tries_step call enters is now true next = record {
    coupled = call_within refl (own_stance c is (section_at t call Tries) now.stance true false (λ grip. grip) false position
        (λ at once. left_line t call lock at enters next once) (λ lines. absurd cc)) (λ w. absurd cc) (λ w. absurd cc) refl tt tt;
    mine = Some (tried_effect call lock.above position);
    is = ap (effect_here call Tries) is ∙ effect_tried c t call lock _ true enters next
        ∙ ap (λ p. Some (entry_of c t (buffer_of call) (tried_effect call lock.above p))) (sym (now.stance.drawn_is refl));
    fresh = λ f same.
        let done : tried_effect call lock.above position ≡ f = cc in
        (none_of effect now.effect_is, same, subst (IsEffectOf call) done (is_own_effect call lock.above position enters));
    stays = λ w. absurd cc;
  }
  tries_step call enters is now false next = silent call Tries _ is (effect_tried c t call lock _ false enters next)
      (call_within refl (kept_line c is (section_at t call Tries) now.stance true false (λ grip. grip) (grind arith)
      (λ at. ap (λ x. count_in t (line_of at x)) (grind arith))) (λ w. in_vain next) (λ w. enters) now.effect_is tt tt) refl
    where
      in_vain : is_next (side_of call) t lock.above ≡ false → has_tried_in_vain opening (Buffer (buffer_of call)) (side_of call) t
          (section c (Buffer (buffer_of call)) (section_at t call Tries) ∷ past) ≡ true
      in_vain next = grind (arith, is, same_tid_self, same_lock_self)

  -- the section of any stage of a call: a signal changes no line and keeps the owner
  pub own_step : (call : Call) (stage : Stage) → t.0 < THREADS → At call → Within call stage → Steps call stage
      (lock_out buffer_rules (section_at t call stage) lock)
  own_step call Idle small is now = absurd (let called = now.called in cc)
  own_step call Acquires small is now = asks_step call is now lock.owner refl
  own_step call Enters small is now = enters_step call small is now
  own_step (Send b m) Tries small is now = tries_step (Send b m) tt is now (is_next Senders t lock.above) refl
  own_step (Recv b) Tries small is now = tries_step (Recv b) tt is now (is_next Receivers t lock.above) refl
  own_step (Close b) Tries small is now = absurd (now.joins refl)
  own_step call Waits small is now = silent call Waits _ is refl
      (call_within refl (released c is (Wait t (side_of call)) now.stance) (λ w. absurd cc) (λ w. now.joins refl) now.effect_is tt (refl, refl)) refl
  own_step call AcquiresAgain small is now = asks_again_step call is now lock.owner refl
  own_step call Signals small is now = silent call Signals _ is refl
      (call_within refl (kept_line c is (section_at t call Signals) now.stance true false (λ grip. grip) refl (λ at. refl))
      (λ w. absurd cc) (λ w. absurd cc) now.effect_is tt tt) refl
  own_step call SignalsOwn small is now = silent call SignalsOwn _ is refl
      (call_within refl (kept_line c is (section_at t call SignalsOwn) now.stance true false (λ grip. grip) refl (λ at. refl))
      (λ w. absurd cc) (λ w. absurd cc) now.effect_is tt tt) refl
  own_step call Releases small is now =
      let left = released c is (Leave t) now.stance in
      silent call Releases _ is refl (record {
        stage_is = refl;
        stance = record { grip = left.grip; line = left.line; drawn_is = λ w. absurd cc };
        slept_none = refl;
        waits_none = refl;
      }) refl
