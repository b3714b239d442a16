-- How section polls make up a poll of a call: what each leaves, the first one, another one in the
-- same poll, and what the poll leaves after its last.
use Rattle.std.proofs.Common.{◌≡◌, ◌≢◌, Bool, true, false, List, Option, Some, ◌⊎◌, None, refl, ap, sym, subst, arith, length, IsSome, is_some, slice_set}
use Rattle.std.proofs.{Common.{if◌then◌else◌, ◌∙◌, inl, inr, ◌++◌, option_map, option_to_list}, lemmas.{Bool.eqb-false, List.{get_or-set_other, length-set}}}
use Rattle.{event_log.specs.declared.ids.{CpuId.CpuId, LockId.LockId, Tid.Tid, BufId.BufId}, layer_traits.specs.declared.buffer_edits.BufferEdit.BufferEdit}
use Rattle.layer_traits.specs.declared.{buffer_edits.BufferReply.BufferReply, calls.{Call.Call, Reply.Reply, Effect.Effect}, call_states.CallState.CallState}
use Rattle.layer_traits.specs.declared.{call_states.Stage.{Stage, TheVariants.{Idle, Acquires}}, scheds.SchedCall.SchedCall, locked.Side.TheVariants.Senders}
use Rattle.layer_traits.specs.declared.{locked.QLockReply.QLockReply, conditions.CvReply.CvReply, moves.WaitList.WaitList, queue_edits.QueueBlock.QueueBlock}
use Rattle.layer_traits.specs.Layers.BufferLaw.{call_state_of, going, Calling, MayGoOn, MayPollCall, begun, going_at, no_call, replied, Answered, Called}
use Rattle.layer_traits.specs.Layers.{BufferLaw.{begun_at, buffer_of, entry_of, recorded, reply_of, buffering, left_recorded}, Conditions.CvCall, CvLaw.Waiting}
use Rattle.layer_traits.specs.Layers.{QLockLaw.{slept_for, is_handed, LocksAgree}, Queues.{buffer_sections, moves_in}, QLocking.{wait_list_in, lock_after}}
use Rattle.layer_traits.specs.Blocks.{BufferProtocol.{BufferLock, BufferSection}, BufferEffects.effects_in, QueueBlocks.{homes_in, inner}}
use Rattle.layer_traits.{specs.Threads.{Places.{home_of, AreMoves, Stands, Threads, one_if, wait_channel_of}, ListsAgree.is_at}, proofs.CountLemmas.not_counted}
use Rattle.{layer_traits.proofs.PlaceLemmas.current_at, thread_blocks.{specs.Queues.{same_tid, is_in}, proofs.Members.same_tid_true}}
use Rattle.fifo_buffer.specs.SectionPolls.{FitsAt, MayPollSection, Sizes, CallsFit, SectionGoes, under_way_at, After, BufferEvent, Ended, SectionPolled}
use Rattle.fifo_buffer.specs.{SectionPolls.{is_at_once, reply_at, NoSection, Sleeps, SectionStays, calling_after, BufferOutcome, recorded_if}, Stances.InCall}
use Rattle.fifo_buffer.{specs.Stances.{Stance, CallStateFits, called_at, asks_at, waits_at, done_at}, proofs.Parts.{effects_append, effects_others}}
use Rattle.fifo_buffer.proofs.{Parts.effects_over, Callers.{monitored, kernel_of}}
use Rattle.layer_traits.specs.declared.scheds.SchedCall.TheVariants as sched

-- the next section of the call of t may be polled; the call's effect is that with which the poll
-- began, and the other threads are as they were then
pub record IsGoing (homes : List CpuId) (O : LockId → Option BufferLock) (past : List BufferSection) (c : CpuId) (t : Tid) (call : Call)
    (own0 local : Waiting BufferReply) (call_states0 call_states : List CallState) (under_way : Option (SchedCall (CvCall BufferEdit))) : Type 0 where
  pub may : MayPollSection O past t call (going (call_state_of call_states t) call) local under_way
  pub others : (u : Tid) → home_of homes u ≡ Some c → same_tid t u ≡ false → FitsAt O past local call_states u
  pub sizes : Sizes local call_states
  pub ended : local.lock.sleep.threads.ended ≡ own0.lock.sleep.threads.ended
  pub effect : (going (call_state_of call_states t) call).effect ≡ (going (call_state_of call_states0 t) call).effect
  pub apart : (u : Tid) → u.0 ≢ t.0 → call_state_of call_states u ≡ call_state_of call_states0 u

-- a call that is at its beginning continues with acquiring its buffer's lock
pub acquires_at : {at stage : Stage} → at ≡ stage → called_at stage ≡ true → (at ≡ Idle) ⊎ (at ≡ Acquires) → Acquires ≡ stage
acquires_at is called either = grind arith

module _ (O : LockId → Option BufferLock) (past : List BufferSection) (t : Tid) (call : Call) where
  begun_fits : (slept waits : Option BufId) → Stance O past t (record { 0 = 0 }) Senders false false false 0 → slept ≡ None → waits ≡ None
      → InCall O past t call slept waits Acquires 0 None
  begun_fits slept waits stance slept_none waits_none = rw (slept_none, waits_none) (record {
    called = refl;
    stance = record { grip = stance.grip; line = stance.line; drawn_is = λ w. absurd cc };
    vain = λ w. absurd cc;
    joins = λ w. absurd cc;
    effect_is = refl;
    slept_here = tt;
    waits_here = tt;
  })

  -- what a call state that agrees with what was done implies for the call that continues
  going_fits : (call_state : CallState) (slept waits : Option BufId) (of : Option Call) → call_state.call ≡ of
      → CallStateFits O past t of slept waits call_state → MayPollCall call_state call
      → ((going call_state call).call ≡ Some call) × InCall O past t call slept waits (going call_state call).stage (going call_state call).position
      (going call_state call).effect
  going_fits call_state slept waits None is coupled may =
      let same : going call_state call ≡ begun call = ap (λ stage. going_at stage call_state call) coupled.stage_is in (
        may,
        subst (λ (x : CallState). InCall O past t call slept waits x.stage x.position x.effect) (sym same)
            (begun_fits slept waits coupled.stance coupled.slept_none coupled.waits_none),
      )
  going_fits call_state slept waits (Some k) is coupled may = grind arith

-- a call that continues has begun
pub goes_called : (O : LockId → Option BufferLock) (past : List BufferSection) (t : Tid) (k : Call) (call_state : CallState) (local : Waiting BufferReply)
    (w : Option (SchedCall (CvCall BufferEdit))) → SectionGoes O past t k call_state local w → called_at call_state.stage ≡ true
goes_called O past t k call_state local w goes = grind arith

-- the first section poll of a poll
pub first_may : (homes : List CpuId) (c : CpuId) (O : LockId → Option BufferLock) (past : List BufferSection) (local : Waiting BufferReply)
    (call_states : List CallState) (under_way : Option (SchedCall (CvCall BufferEdit))) (calling : Option Tid) (t : Tid) (call : Call)
    → home_of homes t ≡ Some c → CallsFit homes c O past local call_states under_way calling → local.lock.sleep.threads.current ≡ Some t
    → (under_way_at calling under_way ≡ None → local.lock.sleep.threads.hand ≡ None) → MayPollCall (call_state_of call_states t) call
    → MayGoOn (under_way_at calling under_way) (Calling t)
    → MayPollSection O past t call (going (call_state_of call_states t) call) local under_way
    × ((u : Tid) → home_of homes u ≡ Some c → same_tid t u ≡ false → FitsAt O past local call_states u)
first_may homes c O past local call_states None None t call home coupled runs hand call_state_may may =
    let both = going_fits O past t call (call_state_of call_states t) (slept_for local.lock.slept t) (slept_for local.waits t)
    (call_state_of call_states t).call refl
    (coupled.fit t home) call_state_may in (
      record { current = runs; called = both.0; goes = record { hand = hand refl; deferred = coupled.deferred; coupled = both.1 } },
      λ u there other. coupled.fit
          u there,
    )
first_may homes c O past local call_states (Some (sched.Pass p)) None t call home coupled runs hand call_state_may may = grind arith
first_may homes c O past local call_states (Some (sched.OnBuffer b e)) None t call home coupled runs hand call_state_may may = absurd coupled.none
first_may homes c O past local call_states under_way (Some v) t call home coupled runs hand call_state_may may = grind (arith, goes_called)

-- a call state of another thread stays if this one's is kept
pub other_call_state : (call_states now : List CallState) (t u : Tid) (x : CallState) → now ≡ slice_set call_states t.0 x → same_tid t u ≡ false
    → call_state_of now u ≡ call_state_of call_states u
other_call_state call_states now t u x is other = grind (arith, get_or-set_other, eqb-false)

pub apart_call_state : (call_states now : List CallState) (t u : Tid) (x : CallState) → now ≡ slice_set call_states t.0 x → u.0 ≢ t.0
    → call_state_of now u ≡ call_state_of call_states u
apart_call_state call_states now t u x is other = ap (λ l. call_state_of l u) is ∙ get_or-set_other call_states t.0 u.0 x no_call other

-- the marks of a thread whose call continues are those of its stage
abbrev pub MarksOf : Tid → Stage → Waiting BufferReply → Type 0
MarksOf t stage local =
    (is_some (slept_for local.lock.slept t) ≡ true → asks_at stage ≡ true) × (is_some (slept_for local.waits t) ≡ true → waits_at stage ≡ true)

module _ {homes : List CpuId} {ActsFor : CpuId → Type 0} {O : LockId → Option BufferLock} {c : CpuId} {t : Tid} {call : Call} {call_state : CallState}
    {old new : List BufferEvent} {local left : Waiting BufferReply} {under_way : Option (SchedCall (CvCall BufferEdit))} {done : Bool} {later : CallState}
    (section_polled : SectionPolled homes ActsFor O c t call call_state old new local left under_way done later) where
  pub ended_of : done ≡ true → Ended O (buffer_sections new) t call_state left under_way later
  ended_of is = subst (λ d. After O (buffer_sections new) t call call_state left under_way d later) is section_polled.after

  pub sizes_of : (call_states now : List CallState) → now ≡ slice_set call_states t.0 later → Sizes local call_states → Sizes left now
  sizes_of call_states now is sizes = record {
    slept = section_polled.sizes.0 ∙ sizes.slept;
    waits = section_polled.sizes.1 ∙ sizes.waits;
    call_states_are = ap (λ (l : List CallState). length l) is ∙ length-set call_states t.0 later ∙ sizes.call_states_are;
  }

  module _ (handed : Bool) (is_done : done ≡ true) (at_once : is_at_once call_state.stage handed ≡ true) (called : call_state.call ≡ Some call) where
    pub later_effect : later.effect ≡ call_state.effect
    later_effect = grind arith

    pub next_may : MayPollSection O (buffer_sections new) t call later left under_way
    next_may = grind arith

    -- so the call state stays as it is
    pub next_going : going later call ≡ later
    next_going = grind arith

    -- why nothing was done below
    pub why_nothing_done : local.lock.sleep.threads.current ≡ Some t → handed ≡ is_handed local.lock.slept local.lock.sleep.threads.current
        → (IsSome (slept_for local.waits t)) ⊎ (IsSome (slept_for local.lock.slept t))
    why_nothing_done runs is_handed_so = grind arith

  -- the reply is read off the call state that the section poll left
  pub completes_as : (stage : Stage) → stage ≡ call_state.stage → (answer : Option Reply) → answer ≡ (if done then reply_at call stage later.effect else None)
      → answer ≡ (if done then replied call call_state call_state.stage else None)
  completes_as stage is answer abstract_answer = grind arith

  -- if one section poll was all, the thread neither slept for the lock nor waited
  pub exit_free : (handed : Bool) → MarksOf t call_state.stage local → ((done ≡ true) × (is_at_once call_state.stage handed ≡ false)) ⊎ (done ≡ false)
      → local.lock.sleep.threads.current ≡ Some t → handed ≡ is_handed local.lock.slept local.lock.sleep.threads.current
      → (slept_for local.lock.slept t ≡ None) × (slept_for local.waits t ≡ None)
  exit_free handed marks exits runs handed_is = grind arith

pub marks_of : (O : LockId → Option BufferLock) (past : List BufferSection) (t : Tid) (call : Call) (call_state : CallState) (local : Waiting BufferReply)
    (w : Option (SchedCall (CvCall BufferEdit))) → SectionGoes O past t call call_state local w → MarksOf t call_state.stage local
marks_of O past t call call_state local w goes = grind arith

-- if another section poll follows an Acquire, the thread slept for the lock
pub why_slept : (t : Tid) (stage : Stage) (local : Waiting BufferReply) (handed : Bool) → is_at_once stage handed ≡ true → MarksOf t stage local
    → local.lock.sleep.threads.current ≡ Some t → handed ≡ is_handed local.lock.slept local.lock.sleep.threads.current → waits_at stage ≡ false
    → (slept_for local.waits t ≡ None) × (is_some (slept_for local.lock.slept t) ≡ true)
why_slept t stage local handed once marks runs handed_is no_wait = grind arith

-- the call continues after a section, except the last one, after which it returns
abbrev pub GoesOrEnds : CallState → Call → Stage → QLockReply (CvReply BufferReply) → Type 0
GoesOrEnds call_state call stage out =
    ((replied call call_state stage ≡ None) × ((recorded call_state stage out).call ≡ Some call))
    ⊎ ((f : Effect) × (call_state.effect ≡ Some f) × (replied call call_state stage ≡ Some (reply_of call f)) × ((recorded call_state stage out).stage ≡ Idle)
    × ((recorded call_state stage out).call ≡ None) × ((recorded call_state stage out).effect ≡ call_state.effect))

pub goes_or_ends : (call_state : CallState) (call : Call) (stage : Stage) (out : QLockReply (CvReply BufferReply)) → call_state.call ≡ Some call
    → is_some call_state.effect ≡ done_at stage → GoesOrEnds call_state call stage out
goes_or_ends call_state call stage out is done = grind arith

begun_there : (stage : Stage) (o : Option Call) → called_at stage ≡ true → begun_at stage o ≡ o
begun_there stage o is = grind arith

module _ {homes : List CpuId} {ActsFor : CpuId → Type 0} {O : LockId → Option BufferLock} {c : CpuId} {t : Tid} {call : Call} {call_state : CallState}
    {old new : List BufferEvent} {local left : Waiting BufferReply} {under_way : Option (SchedCall (CvCall BufferEdit))} {done : Bool} {later : CallState}
    (section_polled : SectionPolled homes ActsFor O c t call call_state old new local left under_way done later) (home : home_of homes t ≡ Some c)
    (called : call_state.call ≡ Some call) (call_states now : List CallState) (own_call_state : call_state_of now t ≡ later)
    (same : (u : Tid) → same_tid t u ≡ false → call_state_of now u ≡ call_state_of call_states u) where
  -- the call states of the other threads fit as before
  pub others_after : ((u : Tid) → home_of homes u ≡ Some c → same_tid t u ≡ false → FitsAt O (buffer_sections old) local call_states u)
      → (u : Tid) → home_of homes u ≡ Some c → same_tid t u ≡ false → FitsAt O (buffer_sections new) left now u
  others_after before u there other =
      rw (same u other, (section_polled.marks u other).0, (section_polled.marks u other).1) (section_polled.apart u there other
      (call_state_of call_states u).call (slept_for local.lock.slept u) (slept_for local.waits u) (call_state_of call_states u) (before u there other))

  abbrev Coupling : Option Tid → Type 0
  Coupling calling = CallsFit homes c O (buffer_sections new) left now under_way calling

  idle : NoSection under_way → left.lock.sleep.deferred ≡ None → FitsAt O (buffer_sections new) left now t
      → ((u : Tid) → home_of homes u ≡ Some c → same_tid t u ≡ false → FitsAt O (buffer_sections new) left now u) → Coupling None
  idle none deferred mine others = record { none = none; deferred = deferred; fit = λ u there. go u there (same_tid t u) refl }
    where
      go : (u : Tid) → home_of homes u ≡ Some c → (b : Bool) → same_tid t u ≡ b → FitsAt O (buffer_sections new) left now u
      go u there true is = subst (λ v. FitsAt O (buffer_sections new) left now v) (same_tid_true t u is) mine
      go u there false is = others u there is

  abbrev FitAfter : Option Reply → Type 0
  FitAfter answer = Coupling (calling_after t left.lock.sleep.threads.current answer)

  -- the call continues after its section
  call_on : (after : Ended O (buffer_sections new) t call_state left under_way later)
      → (recorded call_state call_state.stage after.recorded_is.0).call ≡ Some call
      → (later.call ≡ Some call) × InCall O (buffer_sections new) t call (slept_for left.lock.slept t) (slept_for left.waits t) later.stage later.position
      later.effect
  call_on after goes =
      let is_call : later.call ≡ Some call = ap (λ (o : CallState). o.call) after.recorded_is.1 ∙ goes in
      (is_call, subst (λ o. CallStateFits O (buffer_sections new) t o (slept_for left.lock.slept t) (slept_for left.waits t) later) is_call after.coupled)

  pub poll_done : ((u : Tid) → home_of homes u ≡ Some c → same_tid t u ≡ false → FitsAt O (buffer_sections old) local call_states u)
      → (answer : Option Reply) → answer ≡ (if done then replied call call_state call_state.stage else None) → FitAfter answer
  poll_done before answer answers = go done answers section_polled.after
    where
      others : (u : Tid) → home_of homes u ≡ Some c → same_tid t u ≡ false → FitsAt O (buffer_sections new) left now u
      others = others_after before

      at : (runs : Option Tid) (abstract_answer : Option Reply) → left.lock.sleep.threads.current ≡ runs → answer ≡ abstract_answer
          → Coupling (calling_after t runs abstract_answer)
          → FitAfter answer
      at runs abstract_answer is_run is_observed fit =
          subst (λ u. Coupling (calling_after t u answer)) (sym is_run) (subst (λ r. Coupling (calling_after t runs r)) (sym is_observed) fit)

      none_there : (w : Option (SchedCall (CvCall BufferEdit))) → w ≡ None → NoSection w
      none_there None is = tt
      none_there (Some s) is = absurd cc

      go : (d : Bool) → answer ≡ (if d then replied call call_state call_state.stage else None)
          → After O (buffer_sections new) t call call_state left under_way d later → FitAfter answer
      go true is after = by_stage (goes_or_ends call_state call call_state.stage after.recorded_is.0 called after.reply)
        where
          by_stage : GoesOrEnds call_state call call_state.stage after.recorded_is.0 → FitAfter answer
          by_stage (inl goes) =
              let on = call_on after goes.1 in
              at (Some t) None after.current (is ∙ goes.0) (record {
                call = call;
                home = home;
                may = record {
                  current = after.current;
                  called = ap (λ (o : CallState). o.call) own_call_state ∙ on.0;
                  goes = rw (after.none, own_call_state) (record { hand = after.hand; deferred = after.deferred; coupled = on.1 });
                };
                others = others;
              })
          by_stage (inr ends) =
              at (Some t) (Some (reply_of call ends.0)) after.current (is ∙ ends.2)
              (idle (none_there under_way after.none) after.deferred (rw own_call_state after.coupled) others)
      go false is after = by_case after.1
        where
          by_case : Sleeps O (buffer_sections new) t call call_state left under_way ⊎ SectionStays O (buffer_sections new) t call call_state left under_way
              → FitAfter answer
          by_case (inl sleeps) =
              at None None sleeps.current is (idle (none_there under_way sleeps.none) sleeps.deferred (rw (own_call_state ∙ after.0) (subst (λ o. CallStateFits
              O (buffer_sections new) t o (slept_for left.lock.slept t) (slept_for left.waits t) call_state) (sym called) sleeps.coupled)) others)
          by_case (inr stays) =
              at (Some t) None stays.current is (record {
                call = call;
                home = home;
                may = record {
                  current = stays.current;
                  called = ap (λ (o : CallState). o.call) (own_call_state ∙ after.0) ∙ called;
                  goes = rw (own_call_state ∙ after.0) stays.goes;
                };
                others = others;
              })

  -- the effects, and the result
  pub called_by : (Acts : CpuId → Type 0) → ((d : CpuId) → Acts d → ActsFor d) → (first : List CallState)
      → call_state.effect ≡ (going (call_state_of first t) call).effect → ((u : Tid) → u.0 ≢ t.0 → call_state_of now u ≡ call_state_of first u)
      → called_at call_state.stage ≡ true → (answer : Option Reply) → answer ≡ (if done then replied call call_state call_state.stage else None)
      → Called Acts c t call first now (effects_in O (buffer_sections old)) (effects_in O (buffer_sections new)) answer
  called_by Acts weaker first same_effect apart in_call answer answers = record {
    others = effects_over O section_polled.others old;
    mine = section_polled.effect;
    foreign = λ d acts. effects_others O d section_polled.others old (section_polled.foreign d (weaker d acts));
    is =
        section_polled.effects ∙ ap (λ es. option_to_list (option_map (entry_of c t (buffer_of call)) section_polled.effect) ++ es)
        (effects_append O section_polled.others old);
    fresh = λ f is. (
      sym same_effect ∙ (section_polled.fresh f is).0,
      ap (λ (o : CallState). o.effect) own_call_state
          ∙ (section_polled.fresh f is).1,
      (section_polled.fresh f is).2,
    );
    stays = λ none. ap (λ (o : CallState). o.effect) own_call_state ∙ section_polled.stays none ∙ same_effect;
    answers = go done answers section_polled.after;
    apart = apart;
  }
    where
      go : (d : Bool) → answer ≡ (if d then replied call call_state call_state.stage else None)
          → After O (buffer_sections new) t call call_state left under_way d later → Answered call (call_state_of now t) answer
      go false is after = rw (is, own_call_state ∙ after.0) (begun_there call_state.stage call_state.call in_call ∙ called)
      go true is after = by_stage (goes_or_ends call_state call call_state.stage after.recorded_is.0 called after.reply)
        where
          by_stage : GoesOrEnds call_state call call_state.stage after.recorded_is.0 → Answered call (call_state_of now t) answer
          by_stage (inl goes) =
              let on = call_on after goes.1 in
              rw (is ∙ goes.0, own_call_state) (begun_there later.stage later.call on.1.called ∙ on.0)
          by_stage (inr ends) = rw (is ∙ ends.2, own_call_state ∙ after.recorded_is.1) (ends.3, (ends.0, ends.5 ∙ ends.1, refl))

-- what a section poll leaves is what its plan makes of the poll's result
pub recorded_left : (t : Tid) (call : Call) (call_state : CallState) (call_states now : List CallState) (stage : Stage) (cv : Waiting BufferReply)
    (answer : Option BufferOutcome) (done : Bool)
    → done ≡ is_some answer → now ≡ slice_set call_states t.0 (recorded_if call_state stage answer)
    → left_recorded t call call_state call_states stage (record { local = cv; answer = answer })
    ≡ record { local = buffering cv now; answer = if done then replied call call_state stage else None }
recorded_left t call call_state call_states now stage cv answer done is same = grind arith

module _ (opening : LockId → Option (QueueBlock BufferLock)) (c : CpuId) (past : List BufferEvent) (local : Threads) (t : Tid)
    (legal : AreMoves (homes_in opening) (moves_in (kernel_of opening) past))
    (stands : Stands (homes_in opening) c (moves_in (kernel_of opening) past) local) (runs : local.current ≡ Some t) where
  pub runs_home : home_of (homes_in opening) t ≡ Some c
  runs_home = (current_at (homes_in opening) c (moves_in (kernel_of opening) past) local legal stands t runs).0

  pub runs_awake : LocksAgree monitored opening past → (lock : LockId) (line : WaitList)
      → is_in t (wait_list_in line (lock_after monitored (inner opening) lock (buffer_sections past))) ≡ false
  runs_awake agree lock line =
      not_counted t (wait_list_in line (lock_after monitored (inner opening) lock (buffer_sections past))) (agree lock line t
      ∙ ap (λ w. one_if (is_at lock line (wait_channel_of w)))
      (current_at (homes_in opening) c (moves_in (kernel_of opening) past) local legal stands t runs).1)
