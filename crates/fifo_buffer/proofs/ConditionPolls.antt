-- One poll of the conditions, for a call: which thread was woken from its wait, which was handed
-- the lock, and which section continued.
use Rattle.std.proofs.Common.{ℕ, ◌≡◌, true, false, List, [], length, Option, Some, None, IsSome, is_some, slice_set, refl, ap, sym, ◌∙◌, subst, arith}
use Rattle.std.proofs.lemmas.List.{length-set}
use Rattle.fifo_buffer.proofs.{Callers.{monitored, kernel_of, AreLawful, Caller}, OtherSteps.caller_is, Polls.{lock_section_poll, other_mark, own_mark}}
use Rattle.fifo_buffer.specs.{Stances.{HoldsLock, InCall, CallStateFits, call_state_in, waits_at}, SectionPolls.{SectionBegins, BufferEvent, BufferOutcome}}
use Rattle.{fifo_buffer.specs.SectionPolls.{SectionGoes, SectionPolled, recorded_if}, event_log.specs.declared.ids.{BufId.BufId, LockId.LockId}}
use Rattle.{event_log.specs.declared.ids.{LockId.TheVariants.Buffer, Tid.Tid}, layer_traits.specs.declared.buffer_edits.BufferEdit.BufferEdit}
use Rattle.layer_traits.specs.declared.{buffer_edits.BufferReply.BufferReply, calls.{Call.Call, Effect.Effect}, conditions.CvReply.CvReply}
use Rattle.layer_traits.specs.declared.{locked.QLockReply.{QLockReply, TheVariants.{Acquired, Released}}, scheds.SchedCall.SchedCall, call_states.Stage.Stage}
use Rattle.layer_traits.specs.{declared.call_states.CallState.CallState, Layers.{BufferLaw.{buffer_of, recorded, section_at}, Conditions.CvCall}}
use Rattle.layer_traits.specs.Layers.{CvLaw.{CvPolled, WaitOver, Waiting, left_waiting, left_woken}, QLockLaw.{Request, LockPolled, Locks, Locking}}
use Rattle.layer_traits.specs.Layers.{QLockLaw.{left_handed, slept_for}, QLocking.{wait_list_in, owner_in, lock_caller}, Queues.buffer_sections}
use Rattle.layer_traits.specs.Blocks.{BufferProtocol.{BufferLock, BufferSection, buffer_lock_at, buffer_monitor_rules}, QueueBlocks.{homes_in, inner}}
use Rattle.{layer_traits.specs.Polling.Plans.Left, thread_blocks.specs.Queues.{same_tid, is_in}}
use Rattle.layer_traits.specs.declared.conditions.CvReply.TheVariants as answer
use Rattle.layer_traits.specs.declared.moves.WaitList.TheVariants as line

-- a thread that was woken from its wait acquires the lock again
waited_on : (O : LockId → Option BufferLock) (past : List BufferSection) (t : Tid) (call : Call) (at : BufId) (slept : Option BufId)
    (stage : Stage) (position : ℕ) (effect : Option Effect)
    → InCall O past t call slept (Some at) stage position effect
    → (slept ≡ None) × ((out : QLockReply (CvReply BufferReply))
    → CallStateFits O past t (recorded (call_state_in stage call position effect) stage out).call None None
    (recorded (call_state_in stage call position effect) stage out))
    × ((out : QLockReply (CvReply BufferReply)) → (recorded (call_state_in stage call position effect) stage out).effect ≡ effect)
waited_on O past t call at slept stage position effect now = grind arith

handed_on : (O : LockId → Option BufferLock) (past : List BufferSection) (t : Tid) (call : Call) (at : BufId) (stage : Stage) (position : ℕ)
    (effect : Option Effect) → HoldsLock t (buffer_lock_at O past (Buffer (buffer_of call))) → InCall O past t call (Some at) None stage position effect
    → CallStateFits O past t (recorded (call_state_in stage call position effect) stage Acquired).call None None
    (recorded (call_state_in stage call position effect) stage Acquired)
    × ((recorded (call_state_in stage call position effect) stage Acquired).effect ≡ effect) × (waits_at stage ≡ false)
handed_on O past t call at stage position effect holds now = grind arith

module _ (caller : Caller) (new : List BufferEvent) (stage : Stage) (position : ℕ) (effect : Option Effect) where
  open caller use {opening, ActsFor, c, t, small, call, local, slept_size, waits_size, runs, old}

  abbrev O : LockId → Option BufferLock
  O = inner opening

  abbrev call_state : CallState
  call_state = call_state_in stage call position effect

  abbrev e : CvCall BufferEdit
  e = section_at t call stage

  -- a section poll that left what a poll of the conditions got
  abbrev Polled : List BufferEvent → Left (Waiting BufferReply) BufferOutcome → Option (SchedCall (CvCall BufferEdit)) → Type 0
  Polled log got under_way =
      SectionPolled (homes_in opening) ActsFor O c t call call_state old log local got.local under_way (is_some got.answer)
      (recorded_if call_state stage got.answer)

  abbrev Within : Option BufId → Option BufId → Type 0
  Within slept waits = InCall O (buffer_sections old) t call slept waits stage position effect

  abbrev Begins : Type 0
  Begins = SectionBegins O (buffer_sections old) t call call_state local

  -- a poll that only returns a result, and leaves these marks
  at_once_section : (slept waits : List (Option BufId)) (out : QLockReply (CvReply BufferReply)) (got : Left (Waiting BufferReply) BufferOutcome)
      (under_way : Option (SchedCall (CvCall BufferEdit))) → got ≡ record {
        local = record { lock = record { sleep = local.lock.sleep; slept = slept }; waits = waits };
        answer = Some (record { out = out; slept = false; woke = None });
      }
      → under_way ≡ None → Begins
      → ((u : Tid) → same_tid t u ≡ false → (slept_for slept u ≡ slept_for local.lock.slept u) × (slept_for waits u ≡ slept_for local.waits u))
      → (length slept ≡ length local.lock.slept) × (length waits ≡ length local.waits) → (slept_for slept t ≡ None) × (slept_for waits t ≡ None)
      → CallStateFits O (buffer_sections old) t (recorded call_state stage out).call None None (recorded call_state stage out)
      → (recorded call_state stage out).effect ≡ effect → (waits_at stage ≡ true → true ≡ is_some (slept_for local.waits t)) → Polled old got under_way
  at_once_section slept waits out got under_way is ends begins marks sizes free coupled keeps over = rw (is, ends) (record {
    others = [];
    mine = [];
    foreign = λ d for. tt;
    own_events = tt;
    is = refl;
    effect = None;
    effects = refl;
    fresh = λ f w. absurd cc;
    stays = λ w. keeps;
    marks = marks;
    sizes = sizes;
    ended = refl;
    apart = λ u there other of slept waits its coupled. coupled;
    after = record {
      none = refl;
      current = runs;
      hand = begins.hand;
      deferred = begins.deferred;
      coupled = rw (free.0, free.1) coupled;
      recorded_is = (out, refl);
      reply = begins.coupled.effect_is;
      free = free;
    };
    over = over;
    handed = λ some. refl;
  })

  over_section_poll : (at : BufId) → slept_for local.waits t ≡ Some at → Begins
      → (got : Left (Waiting BufferReply) BufferOutcome) (under_way : Option (SchedCall (CvCall BufferEdit))) (u : Tid) → u ≡ t
      → (o : WaitOver buffer_monitor_rules O (buffer_of call) e old local under_way got) → got ≡ left_woken u o.side local.waits local.lock
      → Polled old got under_way
  over_section_poll at waits_is begins got under_way u is_caller o leaves =
      let coupled : Within (slept_for local.lock.slept t) (Some at) = subst (λ w. Within (slept_for local.lock.slept t) w) waits_is begins.coupled in
      let on = waited_on O (buffer_sections old) t call at (slept_for local.lock.slept t) stage position effect coupled in
      let out : QLockReply (CvReply BufferReply) = Released (answer.Waited o.side) in
      at_once_section local.lock.slept (slice_set local.waits t.0 None) out got under_way
      (leaves ∙ ap (λ v. left_woken v o.side local.waits local.lock) is_caller) o.ends begins (λ v other. (refl, other_mark local.waits t v None other))
      (refl, length-set local.waits t.0 None) (on.0, own_mark local.waits t None waits_size small) (on.1 out) (on.2 out) (λ w. sym (ap is_some waits_is))

  handed_polled : (at : BufId) → slept_for local.lock.slept t ≡ Some at → slept_for local.waits t ≡ None → Begins
      → (got : Left (Waiting BufferReply) BufferOutcome)
      (l : Left (Locking (CvReply BufferReply)) BufferOutcome) (under_way : Option (SchedCall (CvCall BufferEdit))) (u : Tid) → u ≡ t
      → owner_in (buffer_lock_at O (buffer_sections old) (Buffer (buffer_of call))) ≡ Some t
      → is_in t (wait_list_in line.Sleepers (buffer_lock_at O (buffer_sections old) (Buffer (buffer_of call)))) ≡ false → under_way ≡ None
      → l ≡ left_handed u local.lock.slept local.lock.sleep → got ≡ left_waiting u (buffer_of call) local.waits l.local l.answer → Polled old got under_way
  handed_polled at slept_is waits_none begins got l under_way u is_caller owns awake ends l_is got_is =
      let coupled : Within (Some at) None =
      subst (λ w. Within (Some at) w) waits_none (subst (λ w. Within w (slept_for local.waits t)) slept_is begins.coupled) in
      let on = handed_on O (buffer_sections old) t call at stage position effect
      (held (buffer_lock_at O (buffer_sections old) (Buffer (buffer_of call))) owns awake) coupled in
      at_once_section (slice_set local.lock.slept t.0 None) local.waits Acquired got under_way
      (got_is ∙ ap (λ (x : Left (Locking (CvReply BufferReply)) BufferOutcome). left_waiting u (buffer_of call) local.waits x.local x.answer) l_is
      ∙ ap (λ v. left_waiting v (buffer_of call) local.waits (left_handed v local.lock.slept local.lock.sleep).local
      (left_handed v local.lock.slept local.lock.sleep).answer) is_caller) ends begins (λ v other. (other_mark local.lock.slept t v None other, refl))
      (length-set local.lock.slept t.0 None, refl) (own_mark local.lock.slept t None slept_size small, waits_none) on.0 on.1 (λ w. absurd (cc (w, on.2)))
    where
      held : (x : Option BufferLock) → owner_in x ≡ Some t → is_in t (wait_list_in line.Sleepers x) ≡ false → HoldsLock t x
      held x owns awake = grind arith

  -- what the lock did, of a caller that slept for it or did not
  abbrev LockDid : Option (SchedCall (CvCall BufferEdit)) → Left (Locking (CvReply BufferReply)) BufferOutcome → Option BufId → Type 0
  LockDid under_way left slept = LockPolled monitored (kernel_of opening) ActsFor c (buffer_of call) e slept old new local.lock under_way left

  abbrev ConditionsDid : Option BufId → Option (SchedCall (CvCall BufferEdit)) → Left (Waiting BufferReply) BufferOutcome → Type 0
  ConditionsDid waits under_way got = CvPolled buffer_monitor_rules (kernel_of opening) ActsFor c (buffer_of call) e waits old new local under_way got

  -- a poll of the conditions is a section poll of the call
  polled_in : (before under_way : Option (SchedCall (CvCall BufferEdit))) → SectionGoes O (buffer_sections old) t call call_state local before
      → AreLawful opening new → is_in t (wait_list_in line.Sleepers (buffer_lock_at O (buffer_sections old) (Buffer (buffer_of call)))) ≡ false
      → (waits slept : Option BufId) → slept_for local.waits t ≡ waits → slept_for local.lock.slept t ≡ slept → (got : Left (Waiting BufferReply) BufferOutcome)
      → ConditionsDid waits under_way got → (IsSome waits → new ≡ old) → (IsSome slept → new ≡ old) → Polled new got under_way
  polled_in (Some s) under_way goes lawful awake (Some at) slept waits_is slept_is got polled woken handed = absurd (cc (goes.waits, waits_is))
  polled_in None under_way goes lawful awake (Some at) slept waits_is slept_is got polled woken handed =
      subst (λ log. Polled log got under_way) (sym (woken refl))
      (over_section_poll at waits_is goes got under_way (lock_caller monitored e) (caller_is t call stage) polled polled.leaves)
  polled_in (Some s) under_way goes lawful awake None (Some at) waits_is slept_is got polled woken handed = absurd (cc (goes.slept, slept_is))
  polled_in None under_way goes lawful awake None (Some at) waits_is slept_is got polled woken handed =
      let hands : Request monitored O (buffer_of call) (lock_caller monitored e) old local.lock under_way polled.left
      = subst (LockDid under_way polled.left) (ap (slept_for local.lock.slept) (caller_is t call stage) ∙ slept_is) polled.polled in
      subst (λ log. Polled log got under_way) (sym (handed refl)) (handed_polled at slept_is waits_is goes got polled.left under_way (lock_caller monitored e)
      (caller_is t call stage) (hands.owns ∙ ap Some (caller_is t call stage)) awake hands.ends hands.leaves polled.leaves)
  polled_in before under_way goes lawful awake None None waits_is slept_is got polled woken handed =
      let locks : Locks (kernel_of opening) ActsFor c (buffer_of call) e old new local.lock under_way polled.left
      = subst (LockDid under_way polled.left) (ap (slept_for local.lock.slept) (caller_is t call stage) ∙ slept_is) polled.polled in
      let sleep = locks.polled in
      lock_section_poll caller stage position effect sleep.others sleep.foreign slept_is waits_is new sleep.poll_result lawful sleep.is sleep.may before goes
      under_way locks.left polled.left got (lock_caller monitored e) (caller_is t call stage) sleep.leaves locks.ends locks.leaves polled.leaves

module _ (caller : Caller) (new : List BufferEvent) where
  open caller use {opening, ActsFor, c, t, call, local, old}

  pub polled_section : (call_state : CallState) (before under_way : Option (SchedCall (CvCall BufferEdit))) → call_state.call ≡ Some call
      → SectionGoes (inner opening) (buffer_sections old) t call call_state local before → AreLawful opening new
      → is_in t (wait_list_in line.Sleepers (buffer_lock_at (inner opening) (buffer_sections old) (Buffer (buffer_of call)))) ≡ false
      → (u : Tid) → u ≡ t → (got : Left (Waiting BufferReply) BufferOutcome)
      → CvPolled buffer_monitor_rules (kernel_of opening) ActsFor c (buffer_of call) (section_at t call call_state.stage) (slept_for local.waits u) old new
      local
      under_way got → (IsSome (slept_for local.waits u) → new ≡ old) → (IsSome (slept_for local.lock.slept u) → new ≡ old) → SectionPolled (homes_in opening)
      ActsFor (inner opening) c t call call_state old new local got.local under_way (is_some got.answer) (recorded_if call_state call_state.stage got.answer)
  polled_section call_state before under_way called goes lawful awake u same got polled woken handed =
      subst (λ (x : CallState). SectionPolled (homes_in opening) ActsFor (inner opening) c t call x old new local got.local under_way (is_some got.answer)
      (recorded_if x call_state.stage got.answer)) whole (polled_in caller new call_state.stage call_state.position call_state.effect before under_way
      (subst (λ (x : CallState). SectionGoes (inner opening) (buffer_sections old) t call x local before) (sym whole) goes) lawful awake
      (slept_for local.waits t) (slept_for local.lock.slept t) refl refl got (rw same at polled) (rw same at woken) (rw same at handed))
    where
      whole : call_state_in call_state.stage call call_state.position call_state.effect ≡ call_state
      whole = ap (λ o. record { stage = call_state.stage; call = o; position = call_state.position; effect = call_state.effect }) (sym called)
