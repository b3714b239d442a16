-- One poll of the conditions, for a call at a stage: what it may be, and what it leaves.
use Rattle.std.proofs.Common.{ℕ, ◌≡◌, ◌⊎◌, inl, inr, ◌<◌, Bool, true, false, not, ◌&&◌, List, [], ◌∷◌, ◌++◌, length, Option, Some, None, option_map}
use Rattle.std.proofs.{Common.{option_to_list, is_some, slice_set, if◌then◌else◌, refl, ap, sym, ◌∙◌, subst, arith}, lemmas.Bool.eqb-false}
use Rattle.std.proofs.lemmas.List.{get_or-set_other, get_or-set_same, length-set}
use Rattle.fifo_buffer.proofs.{Callers.{monitored, kernel_of, AreLawful, Caller}, Parts.deferred_on, OtherSteps.{fits_apart, caller_is, due_now, keeps_fits}}
use Rattle.fifo_buffer.{proofs.{OtherSteps.owner_due, OwnSteps.{Stepped, own_step}}, specs.Stances.{InCall, CallStateFits, recorded_by, slept_by}}
use Rattle.fifo_buffer.specs.{Stances.{call_state_in, waits_at, waits_by}, SectionPolls.{After, BufferEvent, BufferOutcome, SectionGoes, IsDeferred}}
use Rattle.{fifo_buffer.specs.SectionPolls.{MayPollSection, Midway, SectionPolled, recorded_if, is_plain}, event_log.specs.declared.ids.BufId.BufId}
use Rattle.event_log.specs.{declared.ids.{CpuId.CpuId, LockId.{LockId, TheVariants.Buffer}, Tid.Tid, TheConstants.THREADS}, History.AreForeign}
use Rattle.{event_log.proofs.BoolLemmas.none_of, layer_traits.specs.declared.{buffer_edits.{BufferEdit.BufferEdit, BufferReply.BufferReply}, calls.Call.Call}}
use Rattle.layer_traits.specs.declared.{calls.Effect.Effect, conditions.CvReply.CvReply, locked.QLockReply.{QLockReply, TheVariants.{Queued, Released}}}
use Rattle.layer_traits.specs.declared.{moves.WaitList.WaitList, queue_edits.QueueBlock.QueueBlock, scheds.SchedCall.SchedCall, call_states.Stage.Stage}
use Rattle.layer_traits.specs.{declared.call_states.CallState.CallState, Blocks.{BufferEffects.effects_in, BufferProtocol.{BufferLock, BufferSection}}}
use Rattle.layer_traits.specs.Blocks.{BufferProtocol.{buffer_lock_at, buffer_monitor_rules, buffer_rules}, QueueBlocks.{homes_in, inner}}
use Rattle.layer_traits.specs.Layers.{BufferLaw.{buffer_of, recorded, section_at}, Conditions.CvCall, CvLaw.{MayCallCond, MayWait, Waiting, left_waiting}}
use Rattle.layer_traits.specs.Layers.{QLockLaw.{MayGo, MayLock, Locking, left_after, slept_for}, QLocking.{wait_list_slept, lock_answer, lock_out}}
use Rattle.layer_traits.specs.Layers.{Queues.{buffer_sections, event, cpu_of_queue_event, out_at}, SleepLaw.{PollResult, Does, SendsHome, Sleeping, WaitsStill}}
use Rattle.layer_traits.specs.{Layers.SleepLaw.{MayDo, left_with, must_send, seen_with}, Threads.Passes.{own_slept, own_woken, passed_on, queue_for}}
use Rattle.layer_traits.{specs.{Threads.Places.{Threads, home_of}, Polling.Plans.Left, Protocols.Protocol.section}, proofs.PlaceLemmas.woken_current}
use Rattle.thread_blocks.specs.Queues.{same_tid}
use Rattle.layer_traits.specs.declared.conditions.CvReply.TheVariants as answer
use Rattle.layer_traits.specs.declared.queues.QueueCall.TheVariants as queue
use Rattle.layer_traits.specs.declared.scheds.SchedCall.TheVariants as sched

module _ (opening : LockId → Option (QueueBlock BufferLock)) (c : CpuId) (t : Tid) (home : home_of (homes_in opening) t ≡ Some c) (call : Call)
    (call_state : CallState)
    (past : List BufferEvent) where
  -- the whole duty of a poll
  may_for : (local : Waiting BufferReply) (under_way : Option (SchedCall (CvCall BufferEdit))) (slept waits : Option BufId)
      → slept_for local.lock.slept t ≡ slept → slept_for local.waits t ≡ waits
      → SectionGoes (inner opening) (buffer_sections past) t call call_state local under_way
      → MayWait waits under_way (buffer_of call) (section_at t call call_state.stage) t
      (MayGo slept under_way (buffer_of call) (section_at t call call_state.stage) t
      (MayLock monitored (kernel_of opening) c past local.lock.sleep.threads.hand (buffer_of call) (section_at t call call_state.stage)))
  may_for local None slept (Some at) slept_is waits_is goes = grind arith
  may_for local None (Some at) None slept_is waits_is goes = grind arith
  may_for local None None None slept_is waits_is goes =
      let now : InCall (inner opening) (buffer_sections past) t call None None call_state.stage call_state.position call_state.effect
      = subst (λ w. InCall (inner opening) (buffer_sections past) t call None w call_state.stage call_state.position call_state.effect) waits_is
      (subst (λ s. InCall (inner opening) (buffer_sections past) t call s
      (slept_for local.waits t) call_state.stage call_state.position call_state.effect) slept_is goes.coupled) in
      record {
        empty = goes.hand;
        owners = owner_due (inner opening) (buffer_sections past) t call call_state.stage call_state.position call_state.effect now;
        stays = λ more others lawful. due_now (inner opening) (buffer_sections (more ++ past)) t call call_state.stage call_state.position call_state.effect
            (keeps_fits opening c t home more past others lawful (Some call) None None call_state now);
      }
  may_for local (Some s) slept (Some at) slept_is waits_is goes = grind arith
  may_for local (Some s) (Some at) None slept_is waits_is goes = grind arith
  may_for local (Some s) None None slept_is waits_is goes = goes.is

  pub may_poll_section : (local : Waiting BufferReply) (under_way : Option (SchedCall (CvCall BufferEdit)))
      → MayPollSection (inner opening) (buffer_sections past) t call call_state local under_way
      → MayCallCond buffer_monitor_rules (kernel_of opening) c past local under_way (buffer_of call) (section_at t call call_state.stage)
  may_poll_section local under_way may = grind (arith, caller_is, may_for)

-- the marks after a result
abbrev slept_list : Tid → BufId → List (Option BufId) → QLockReply (CvReply BufferReply) → List (Option BufId)
slept_list t b slept Queued = slice_set slept t.0 (Some b)
slept_list t b slept other = slept

abbrev waits_list_in : Tid → BufId → List (Option BufId) → CvReply BufferReply → List (Option BufId)
waits_list_in t b waits (answer.Waited side) = slice_set waits t.0 (Some b)
waits_list_in t b waits other = waits

abbrev waits_list : Tid → BufId → List (Option BufId) → QLockReply (CvReply BufferReply) → List (Option BufId)
waits_list t b waits (Released o) = waits_list_in t b waits o
waits_list t b waits other = waits

-- what the layers between make of a result: it is returned at once, or its caller gets a mark
abbrev both : Tid → BufId → List (Option BufId) → List (Option BufId) → Left (Sleeping (QLockReply (CvReply BufferReply))) BufferOutcome
    → Left (Waiting BufferReply) BufferOutcome
both t b waits slept l = left_waiting t b waits (left_after t b slept l.local l.answer).local (left_after t b slept l.local l.answer).answer

both_left : (t : Tid) (b : BufId) (waits slept : List (Option BufId)) (sleep : Sleeping (QLockReply (CvReply BufferReply)))
    (out : QLockReply (CvReply BufferReply))
    (outcome : BufferOutcome)
    → outcome.out ≡ out
    → both t b waits slept (record { local = sleep; answer = Some outcome })
    ≡ record {
      local = record { lock = record { sleep = sleep; slept = slept_list t b slept out }; waits = waits_list t b waits out };
      answer = if is_plain out then Some outcome else None;
    }
both_left t b waits slept sleep out outcome is = grind arith

plain_marks : (O : LockId → Option BufferLock) (past : _) (t : Tid) (b : BufId) (call_state : CallState) (stage : Stage)
    (out : QLockReply (CvReply BufferReply))
    → is_plain out ≡ true → CallStateFits O past t (recorded_by call_state stage out).call (slept_by b out) (waits_by b out) (recorded_by call_state stage out)
    → CallStateFits O past t (recorded call_state stage out).call None None (recorded call_state stage out)
plain_marks O past t b call_state stage Queued plain coupled = absurd cc
plain_marks O past t b call_state stage (Released (answer.Waited side)) plain coupled = absurd cc
plain_marks O past t b call_state stage (Released other) plain coupled = coupled
plain_marks O past t b call_state stage other plain coupled = coupled

plain_recorded : (call_state : CallState) (stage : Stage) (out : QLockReply (CvReply BufferReply)) → is_plain out ≡ true
    → recorded_by call_state stage out ≡ recorded call_state stage out
plain_recorded call_state stage out plain = grind arith

-- whether a section puts its caller to sleep, according to its result
sleeps_as : (e : CvCall BufferEdit) (lock : BufferLock)
    → (lock_answer monitored e lock).slept ≡ is_some (wait_list_slept monitored (lock_answer monitored e lock).out)
sleeps_as e lock = grind arith

plain_stays : (out : QLockReply (CvReply BufferReply)) → is_plain out ≡ true → wait_list_slept monitored out ≡ None
plain_stays out plain = grind arith

-- a wait's result is not returned at once
no_wait_plain : (t : Tid) (call : Call) (stage : Stage) (lock : BufferLock) → is_plain (lock_out buffer_rules (section_at t call stage) lock) ≡ true
    → waits_at stage ≡ false
no_wait_plain t call stage lock plain = grind arith

-- a section that wakes a thread has no effect
same_effect_or_none : (t : Tid) (call : Call) (stage : Stage) (call_state : CallState) (lock : BufferLock)
    → ((recorded call_state stage (lock_out buffer_rules (section_at t call stage) lock)).effect ≡ call_state.effect)
    ⊎ ((lock_answer buffer_rules (section_at t call stage) lock).woke ≡ None)
same_effect_or_none t call stage call_state lock = grind arith

woken_ended : (homes : List CpuId) (c : CpuId) (woke : Option Tid) (local : Threads) → (own_woken homes c woke local).ended ≡ local.ended
woken_ended homes c woke local = grind arith

slept_ended : (line : Option WaitList) (local : Threads) → (own_slept line local).ended ≡ local.ended
slept_ended line local = grind arith

-- marks of other threads
pub other_mark : (l : List (Option BufId)) (t u : Tid) (v : Option BufId) → same_tid t u ≡ false → slept_for (slice_set l t.0 v) u ≡ slept_for l u
other_mark l t u v other = get_or-set_other l t.0 u.0 v None (λ same. eqb-false t.0 u.0 other (sym same))

pub own_mark : (l : List (Option BufId)) (t : Tid) (v : Option BufId) → length l ≡ THREADS → t.0 < THREADS → slept_for (slice_set l t.0 v) t ≡ v
own_mark l t v size small = get_or-set_same l t.0 v None (omega (arith, size, small))

plain_lists : (t : Tid) (b : BufId) (slept waits : List (Option BufId)) (out : QLockReply (CvReply BufferReply)) → is_plain out ≡ true
    → (slept_list t b slept out ≡ slept) × (waits_list t b waits out ≡ waits)
plain_lists t b slept waits out plain = grind arith

slept_mark : (t : Tid) (b : BufId) (slept : List (Option BufId)) (out : QLockReply (CvReply BufferReply)) → length slept ≡ THREADS → t.0 < THREADS
    → slept_for slept t ≡ None → slept_for (slept_list t b slept out) t ≡ slept_by b out
slept_mark t b slept out size small none = grind (arith, own_mark)

waits_mark : (t : Tid) (b : BufId) (waits : List (Option BufId)) (out : QLockReply (CvReply BufferReply)) → length waits ≡ THREADS → t.0 < THREADS
    → slept_for waits t ≡ None → slept_for (waits_list t b waits out) t ≡ waits_by b out
waits_mark t b waits out size small none = grind (arith, own_mark)

-- the marks of others, and the lengths
marks_other : (t u : Tid) (b : BufId) (slept waits : List (Option BufId)) (out : QLockReply (CvReply BufferReply)) → same_tid t u ≡ false
    → (slept_for (slept_list t b slept out) u ≡ slept_for slept u) × (slept_for (waits_list t b waits out) u ≡ slept_for waits u)
marks_other t u b slept waits out other = grind (arith, other_mark)

-- a result that is not returned at once puts its caller to sleep
sleeping_wait_list : (out : QLockReply (CvReply BufferReply)) → is_plain out ≡ false → is_some (wait_list_slept monitored out) ≡ true
sleeping_wait_list out plain = grind arith

sleeping_recorded : (call_state : CallState) (stage : Stage) (out : QLockReply (CvReply BufferReply)) → is_plain out ≡ false
    → recorded_by call_state stage out ≡ call_state
sleeping_recorded call_state stage out plain = grind arith

sleeps_none : (line : Option WaitList) (local : Threads) → is_some line ≡ true → (own_slept line local).current ≡ None
sleeps_none line local is = grind arith

not_true : (x y : Bool) → (not x && y) ≡ true → (x ≡ false) × (y ≡ true)
not_true x y is = grind arith

not_false : (x y : Bool) → (not x && y) ≡ false → x ≡ false → y ≡ false
not_false x y is out = grind arith

module _ (caller : Caller) (stage : Stage) (position : ℕ) (effect : Option Effect) (others : List BufferEvent)
    (foreign : AreForeign caller.ActsFor cpu_of_queue_event others) where
  open caller use {opening, ActsFor, c, acts, t, home, small, call, local, slept_size, waits_size, runs, old}

  abbrev O : LockId → Option BufferLock
  O = inner opening

  abbrev call_state : CallState
  call_state = call_state_in stage call position effect

  abbrev b : BufId
  b = buffer_of call

  abbrev e : CvCall BufferEdit
  e = section_at t call stage

  -- the log after environment events, and after the section
  abbrev history : List BufferEvent
  history = others ++ old

  abbrev acted : List BufferEvent
  acted = event c (queue.OnBuffer b e) ∷ history

  -- a section poll that left this
  abbrev SectionPolledTo : List BufferEvent → Waiting BufferReply → Option (SchedCall (CvCall BufferEdit)) → Bool → CallState → Type 0
  SectionPolledTo new left under_way done later = SectionPolled (homes_in opening) ActsFor O c t call call_state old new local left under_way done later

  apart_old : AreLawful opening history → (u : Tid) → home_of (homes_in opening) u ≡ Some c → (of : Option Call) (slept waits : Option BufId) (its : CallState)
      → CallStateFits O (buffer_sections old) u of slept waits its → CallStateFits O (buffer_sections history) u of slept waits its
  apart_old lawful u there = keeps_fits opening c u there others old (foreign c acts) lawful

  abbrev Fresh : Type 0
  Fresh = (local.lock.sleep.deferred ≡ None) × (local.lock.sleep.threads.hand ≡ None) × InCall O (buffer_sections old) t call None None stage position effect

  abbrev Keeping : Type 0
  Keeping = (outcome : BufferOutcome) × (local.lock.sleep.deferred ≡ Some outcome) × IsDeferred O (buffer_sections old) t stage call_state outcome

  module _ (slept_none : slept_for local.lock.slept t ≡ None) (waits_none : slept_for local.waits t ≡ None) where
    view : (under_way : Option (SchedCall (CvCall BufferEdit))) → SectionGoes O (buffer_sections old) t call call_state local under_way → Fresh ⊎ Keeping
    view under_way goes = grind arith

    never : waits_at stage ≡ true → false ≡ is_some (slept_for local.waits t)
    never is = ap is_some (sym waits_none)

    not_slept : is_some (slept_for local.lock.slept t) ≡ true → ⊥
    not_slept some = let none : is_some (slept_for local.lock.slept t) ≡ false = ap is_some slept_none in absurd (cc (none, some))

    abbrev MidwayWith : Option BufferOutcome → Type 0
    MidwayWith o = Midway O (buffer_sections history) t call call_state o local.lock.sleep.threads.hand

    midway_later : AreLawful opening history → Fresh ⊎ Keeping → MidwayWith local.lock.sleep.deferred
    midway_later lawful (inl now) = subst MidwayWith (sym now.0) (now.1, apart_old lawful t home (Some call) None None call_state now.2)
    midway_later lawful (inr now) = subst MidwayWith (sym now.1) (deferred_on opening c others old (foreign c acts) lawful t home call_state now.0 now.2)

    -- no event of this CPU was added
    still_polled : AreLawful opening history → Fresh ⊎ Keeping → SectionPolledTo history local (Some (sched.OnBuffer b e)) false call_state
    still_polled lawful now = record {
      others = others;
      mine = [];
      foreign = foreign;
      own_events = tt;
      is = refl;
      effect = None;
      effects = refl;
      fresh = λ f w. absurd cc;
      stays = λ w. refl;
      marks = λ u other. (refl, refl);
      sizes = (refl, refl);
      ended = refl;
      apart = λ u there other. apart_old lawful u there;
      after = (
        refl,
        inr (record {
          current = runs;
          section_is = refl;
          goes = record { is = refl; slept = slept_none; waits = waits_none; midway = midway_later lawful now };
        }),
      );
      over = never;
      handed = λ some. absurd (not_slept some);
    }

    -- the thread that the section woke was forwarded to its home CPU
    sends_polled : (q : CpuId) (u : Tid) → AreLawful opening history → (now : Keeping)
        → SectionPolledTo (event c (queue.Push q u) ∷ history)
        (record {
          lock = record { sleep = record { threads = passed_on local.lock.sleep.threads; deferred = None }; slept = local.lock.slept };
          waits = local.waits;
        })
        None true (recorded call_state stage now.0.out)
    sends_polled q u lawful now =
        let deferred = deferred_on opening c others old (foreign c acts) lawful t home call_state now.0 now.2 in
        let later = recorded call_state stage now.0.out in
        record {
          others = others;
          mine = event c (queue.Push q u) ∷ [];
          foreign = foreign;
          own_events = (refl, tt);
          is = refl;
          effect = None;
          effects = refl;
          fresh = λ f w. absurd cc;
          stays = λ w. deferred.effect;
          marks = λ v other. (refl, refl);
          sizes = (refl, refl);
          ended = refl;
          apart = λ v there other. apart_old lawful v there;
          after = record {
            none = refl;
            current = runs;
            hand = refl;
            deferred = refl;
            coupled = subst (λ w. CallStateFits O (buffer_sections history) t later.call (slept_for local.lock.slept t) w later) (sym waits_none)
                (subst (λ s. CallStateFits O (buffer_sections history) t later.call s None later) (sym slept_none) deferred.coupled);
            recorded_is = (now.0.out, refl);
            reply = deferred.done;
            free = (slept_none, waits_none);
          };
          over = λ w. absurd (cc (w, deferred.no_wait));
          handed = λ some. refl;
        }

    -- a section poll that left what a poll got, and one that left what the layers between made of
    -- it
    abbrev SectionPolledBy : List BufferEvent → Left (Waiting BufferReply) BufferOutcome → Option (SchedCall (CvCall BufferEdit)) → Type 0
    SectionPolledBy new got under_way = SectionPolledTo new got.local under_way (is_some got.answer) (recorded_if call_state stage got.answer)

    abbrev under_left : Left (Sleeping (QLockReply (CvReply BufferReply))) BufferOutcome → Option (SchedCall (CvCall BufferEdit))
    under_left l = if is_some l.answer then None else Some (sched.OnBuffer b e)

    abbrev PolledFrom : List BufferEvent → Left (Sleeping (QLockReply (CvReply BufferReply))) BufferOutcome → Type 0
    PolledFrom new l = SectionPolledBy new (both t b local.waits local.lock.slept l) (under_left l)

    abbrev left_by : PollResult (QLockReply (CvReply BufferReply)) → Left (Sleeping (QLockReply (CvReply BufferReply))) BufferOutcome
    left_by poll_result = left_with (kernel_of opening) c b e poll_result local.lock.sleep

    -- the section was done: its effect, and what it leaves
    module _ (lawful : AreLawful opening acted) (now : Fresh) (lock : BufferLock) (at : buffer_lock_at O (buffer_sections history) (Buffer b) ≡ Some lock) where
      abbrev outcome : BufferOutcome
      outcome = lock_answer monitored e lock

      abbrev gone_on : Threads
      gone_on = own_slept (wait_list_slept monitored outcome.out) local.lock.sleep.threads

      abbrev after_it : List BufferSection
      after_it = buffer_sections acted

      abbrev threads : Threads
      threads = own_woken (homes_in opening) c outcome.woke (own_slept (wait_list_slept monitored outcome.out) local.lock.sleep.threads)

      here : InCall O (buffer_sections history) t call None None stage position effect
      here = apart_old lawful.1 t home (Some call) None None call_state now.2

      done : Stepped O (buffer_sections history) c t call stage position effect outcome.out
      done = own_step O (buffer_sections history) c t lock position effect call stage small at here

      -- what all its outcomes have in common
      to_done : (left : Waiting BufferReply) (under_way : Option (SchedCall (CvCall BufferEdit))) (ends : Bool) (later : CallState)
          → left.lock.sleep.threads ≡ threads
          → ((u : Tid) → same_tid t u ≡ false
          → (slept_for left.lock.slept u ≡ slept_for local.lock.slept u) × (slept_for left.waits u ≡ slept_for local.waits u))
          → (length left.lock.slept ≡ length local.lock.slept) × (length left.waits ≡ length local.waits)
          → later.effect ≡ (recorded_by call_state stage outcome.out).effect → After O after_it t call call_state left under_way ends later
          → (waits_at stage ≡ true → ends ≡ is_some (slept_for local.waits t)) → SectionPolledTo acted left under_way ends later
      to_done left under_way ends later same marks sizes keeps after over = record {
        others = others;
        mine = event c (queue.OnBuffer b e) ∷ [];
        foreign = foreign;
        own_events = (refl, tt);
        is = refl;
        effect = done.mine;
        effects = ap (λ o. option_to_list o ++ effects_in O (buffer_sections history)) done.is;
        fresh = λ f same. ((done.fresh f same).0, keeps ∙ (done.fresh f same).1, (done.fresh f same).2);
        stays = λ none. keeps ∙ done.stays none;
        marks = marks;
        sizes = sizes;
        ended = ap (λ (o : Threads). o.ended) same ∙ woken_ended (homes_in opening) c outcome.woke gone_on
            ∙ slept_ended (wait_list_slept monitored outcome.out) local.lock.sleep.threads;
        apart = λ u there other of slept waits its coupled. fits_apart O (buffer_sections history) (section c (Buffer b) e) u
            (ap (λ v. same_tid v u) (caller_is t call stage) ∙ other) lawful.0.upper.owners of slept waits its
            (apart_old lawful.1 u there of slept waits its coupled);
        after = after;
        over = over;
        handed = λ some. absurd (not_slept some);
      }

      -- if its result is returned at once, the caller keeps running
      runs_on : is_plain outcome.out ≡ true → threads.current ≡ Some t
      runs_on plain = woken_current (homes_in opening) c outcome.woke gone_on
          ∙ ap (λ line. (own_slept line local.lock.sleep.threads).current) (plain_stays outcome.out plain) ∙ runs

      abbrev sent : Left (Sleeping (QLockReply (CvReply BufferReply))) BufferOutcome
      sent = record { local = record { threads = threads; deferred = Some outcome }; answer = None }

      abbrev stayed : Left (Sleeping (QLockReply (CvReply BufferReply))) BufferOutcome
      stayed = record { local = record { threads = threads; deferred = None }; answer = Some outcome }

      -- it woke a thread of another CPU, and its caller continues
      deferred_polled : must_send outcome threads ≡ true → PolledFrom acted sent
      deferred_polled sends =
          to_done (record { lock = record { sleep = record { threads = threads; deferred = Some outcome }; slept = local.lock.slept }; waits = local.waits })
          (Some (sched.OnBuffer b e)) false call_state refl (λ u other. (refl, refl)) (refl, refl)
          (sym quiet ∙ sym (ap (λ (o : CallState). o.effect) (plain_recorded call_state stage outcome.out plain))) (
            refl,
            inr (record {
              current = runs_on plain;
              section_is = refl;
              goes = record {
                is = refl;
                slept = slept_none;
                waits = waits_none;
                midway = record {
                  plain = plain;
                  coupled = plain_marks O after_it t b call_state stage outcome.out plain done.coupled;
                  effect = quiet;
                  done = here.effect_is;
                  no_wait = no_wait_plain t call stage lock plain;
                  called = here.called;
                };
              };
            }),
          ) never
        where
          parts : (outcome.slept ≡ false) × (is_some threads.hand ≡ true)
          parts = not_true outcome.slept (is_some threads.hand) sends

          plain : is_plain outcome.out ≡ true
          plain = grind (arith, sleeps_as, sleeping_wait_list, parts)

          stays_up : wait_list_slept monitored outcome.out ≡ None
          stays_up = plain_stays outcome.out plain

          quiet : (recorded call_state stage outcome.out).effect ≡ call_state.effect
          quiet = grind (arith, same_effect_or_none, stays_up, parts)

      -- the marks that it left
      abbrev slept' : List (Option BufId)
      slept' = slept_list t b local.lock.slept outcome.out

      abbrev waits' : List (Option BufId)
      waits' = waits_list t b local.waits outcome.out

      abbrev left_now : Waiting BufferReply
      left_now = record { lock = record { sleep = record { threads = threads; deferred = None }; slept = slept' }; waits = waits' }

      plain_or_sleeps : must_send outcome threads ≡ false → SectionPolledBy acted
          (record { local = left_now; answer = if is_plain outcome.out then Some outcome else None }) None
      plain_or_sleeps stays_here = go (is_plain outcome.out) refl
        where
          marks : (u : Tid) → same_tid t u ≡ false → (slept_for slept' u ≡ slept_for local.lock.slept u) × (slept_for waits' u ≡ slept_for local.waits u)
          marks u other = marks_other t u b local.lock.slept local.waits outcome.out other

          fits_as : (o : CallState) → recorded_by call_state stage outcome.out ≡ o
              → CallStateFits O after_it t o.call (slept_for slept' t) (slept_for waits' t) o
          fits_as o is = subst (λ (o : CallState). CallStateFits O after_it t o.call (slept_for slept' t) (slept_for waits' t) o) is (rw (
            slept_mark t b local.lock.slept outcome.out slept_size small slept_none,
            waits_mark t b local.waits outcome.out waits_size small waits_none,
          ) done.coupled)

          go : (b : Bool) → is_plain outcome.out ≡ b → SectionPolledBy acted (record { local = left_now; answer = if b then Some outcome else None }) None
          go true plain =
              let same = plain_recorded call_state stage outcome.out plain in
              let lists = plain_lists t b local.lock.slept local.waits outcome.out plain in
              to_done left_now None true (recorded call_state stage outcome.out) refl marks (grind (arith, length-set))
              (sym (ap (λ (o : CallState). o.effect) same)) (record {
                none = refl;
                current = runs_on plain;
                hand = none_of threads.hand (not_false outcome.slept (is_some threads.hand) stays_here
                    (sleeps_as e lock ∙ ap is_some (plain_stays outcome.out plain)));
                deferred = refl;
                coupled = fits_as (recorded call_state stage outcome.out) same;
                recorded_is = (outcome.out, refl);
                reply = here.effect_is;
                free = (ap (λ l. slept_for l t) lists.0 ∙ slept_none, ap (λ l. slept_for l t) lists.1 ∙ waits_none);
              }) (λ w. absurd (cc (w, no_wait_plain t call stage lock plain)))
          go false sleeps =
              let same = sleeping_recorded call_state stage outcome.out sleeps in
              to_done left_now None false call_state refl marks (grind (arith, length-set))
              (sym (ap (λ (o : CallState). o.effect) same)) (
                refl,
                inl (record {
                  none = refl;
                  current = woken_current (homes_in opening) c outcome.woke gone_on
                      ∙ sleeps_none (wait_list_slept monitored outcome.out) local.lock.sleep.threads (sleeping_wait_list outcome.out sleeps);
                  deferred = refl;
                  coupled = fits_as call_state same;
                }),
              ) never

      done_section_poll : PolledFrom acted (left_by (Does outcome))
      done_section_poll = go (must_send outcome threads) refl
        where
          go : (v : Bool) → must_send outcome threads ≡ v → PolledFrom acted (if v then sent else stayed)
          go true sends = deferred_polled sends
          go false stays_here = subst (λ got. SectionPolledBy acted got None)
              (sym (both_left t b local.waits local.lock.slept stayed.local outcome.out outcome refl)) (plain_or_sleeps stays_here)

    does_base : (outcome : BufferOutcome) → AreLawful opening acted → Fresh → out_at (kernel_of opening) history b e ≡ Some outcome
        → PolledFrom acted (left_by (Does outcome))
    does_base outcome lawful now out = there (buffer_lock_at O (buffer_sections history) (Buffer b)) refl out
      where
        there : (x : Option BufferLock) → buffer_lock_at O (buffer_sections history) (Buffer b) ≡ x
            → option_map (lock_answer monitored e) x ≡ Some outcome → PolledFrom acted (left_by (Does outcome))
        there None at is = absurd cc
        there (Some lock) at is =
            let same : lock_answer monitored e lock ≡ outcome = cc in
            subst (λ o. PolledFrom acted (left_by (Does o))) same (done_section_poll lawful now lock at)

    abbrev left_sent : Option BufferOutcome → Left (Sleeping (QLockReply (CvReply BufferReply))) BufferOutcome
    left_sent o = record { local = record { threads = passed_on local.lock.sleep.threads; deferred = None }; answer = o }

    sends_base : (q : CpuId) (u : Tid) → AreLawful opening history → Keeping
        → PolledFrom (event c (queue.Push q u) ∷ history) (left_sent local.lock.sleep.deferred)
    sends_base q u lawful now =
        let lists = plain_lists t b local.lock.slept local.waits now.0.out now.2.plain in
        subst (λ o. PolledFrom (event c (queue.Push q u) ∷ history) (left_sent o)) (sym now.1)
        (subst (λ got. SectionPolledBy (event c (queue.Push q u) ∷ history) got None)
        (sym (both_left t b local.waits local.lock.slept (left_sent None).local now.0.out now.0 refl))
        (rw (now.2.plain, lists.0, lists.1) (sends_polled q u lawful now)))

    -- the poll of a thread that neither sleeps for the lock nor waits
    result_of_poll : (new : List BufferEvent) (poll_result : PollResult (QLockReply (CvReply BufferReply))) → AreLawful opening new
        → new ≡ seen_with (kernel_of opening) c b e poll_result history → MayDo (kernel_of opening) c b e poll_result history local.lock.sleep → Fresh ⊎ Keeping
        → PolledFrom new (left_by poll_result)
    result_of_poll new WaitsStill lawful is may now =
        subst (λ log. PolledFrom log (left_by WaitsStill)) (sym is) (still_polled (subst (AreLawful opening) is lawful) now)
    result_of_poll new (Does outcome) lawful is may (inl now) =
        subst (λ log. PolledFrom log (left_by (Does outcome))) (sym is) (does_base outcome (subst (AreLawful opening) is lawful) now may.1)
    result_of_poll new (Does outcome) lawful is may (inr now) = absurd (cc (may.0, now.1))
    result_of_poll new (SendsHome u) lawful is may (inl now) =
        absurd (let out : is_some local.lock.sleep.deferred ≡ false = ap is_some now.0 in cc (out, may.0))
    result_of_poll new (SendsHome u) lawful is may (inr now) =
        subst (λ log. PolledFrom log (left_by (SendsHome u))) (sym is)
        (sends_base (queue_for (homes_in opening) c u) u (subst (AreLawful opening) is lawful).1 now)

    -- the poll of the lock, and of the conditions
    pub lock_section_poll : (new : List BufferEvent) (poll_result : PollResult (QLockReply (CvReply BufferReply))) → AreLawful opening new
        → new ≡ seen_with (kernel_of opening) c b e poll_result history → MayDo (kernel_of opening) c b e poll_result history local.lock.sleep
        → (before : Option (SchedCall (CvCall BufferEdit))) → SectionGoes O (buffer_sections old) t call call_state local before
        → (under_way : Option (SchedCall (CvCall BufferEdit))) (s : Left (Sleeping (QLockReply (CvReply BufferReply))) BufferOutcome)
        (l : Left (Locking (CvReply BufferReply)) BufferOutcome) (got : Left (Waiting BufferReply) BufferOutcome) (u : Tid) → u ≡ t → s ≡ left_by poll_result
        → under_way ≡ under_left s → l ≡ left_after u b local.lock.slept s.local s.answer → got ≡ left_waiting u b local.waits l.local l.answer
        → SectionPolledBy new got under_way
    lock_section_poll new poll_result lawful is may before goes under_way s l got u is_caller s_is ends l_is got_is =
        let got_both : got ≡ both t b local.waits local.lock.slept s
        = got_is ∙ ap (λ (x : Left (Locking (CvReply BufferReply)) BufferOutcome). left_waiting u b local.waits x.local x.answer) l_is
        ∙ ap (λ v. both v b local.waits local.lock.slept s) is_caller in
        subst (λ g. SectionPolledBy new g under_way) (sym got_both) (subst (λ w. SectionPolledBy new (both t b local.waits local.lock.slept s) w) (sym ends)
        (subst (PolledFrom new) (sym s_is) (result_of_poll new poll_result lawful is may (view before goes))))
