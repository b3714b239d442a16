-- Polls of a monitor's sections: what one adds to the effects and to the moves, and what it leaves
-- of the part.
use Rattle.std.proofs.Common.{◌≡◌, ◌≢◌, Bool, true, false, not, ◌&&◌, inl, inr, List, [], ◌∷◌, ◌++◌, Option, Some, None, IsSome, is_some, option_map, refl, ap}
use Rattle.std.{proofs.{Common.{sym, ◌∙◌, subst, option_to_list, append_assoc, arith}, lemmas.Option.same_Some}, specs.List.AllByRecursion}
use Rattle.event_log.specs.{declared.{entries.Entry.Entry, ids.{BufId.BufId, CpuId.CpuId, LockId.{LockId, TheVariants.Buffer}, Tid.Tid}}, History.AreForeign}
use Rattle.{event_log.{specs.History.{AreOthers, same_cpu}, proofs.Foreign.others_both}, layer_traits.specs.declared.call_states.CallState.CallState}
use Rattle.layer_traits.specs.declared.{call_states.Stage.{Stage, TheVariants.{Idle, Acquires}}, calls.{Call.Call, Effect.Effect, Reply.Reply}}
use Rattle.layer_traits.specs.declared.{locked.Side.{Side, TheVariants.{Receivers, Senders}}, queue_edits.QueueBlock.QueueBlock, queues.QueueCall.QueueCall}
use Rattle.layer_traits.specs.declared.{queues.{QueueCall.TheVariants.{Push, TakeAll, OnBuffer}, QueueEvent.QueueEvent}, scheds.SchedCall.SchedCall}
use Rattle.layer_traits.specs.{declared.{sleeps.Outcome.Outcome, moves.WaitList.WaitList}, Blocks.QueueBlocks.inner, Polling.{Plans.Left, Polls.until_answered}}
use Rattle.layer_traits.specs.Layers.BufferLaw.{Answered, Calling, IsEffectOf, MayGoOn, MayPollCall, MovesGrow, RunsOn, buffer_of, call_state_of, cpu_of_entry}
use Rattle.layer_traits.specs.Layers.{BufferLaw.{entry_of, going, reply_of, side_of, still_calling}, Queues.{Kernel, buffer_sections, cpu_of_queue_event}}
use Rattle.layer_traits.specs.Layers.{Queues.{event, moves_in, with_section}, Scheds.own_answered, SleepLaw.{Does, MayCall, MayDo, MaySleep, PollResult}}
use Rattle.layer_traits.specs.Layers.SleepLaw.{SendsHome, SleepPolled, Sleeping, WaitsStill, left_done, left_with, must_send, seen_with, sleep_kernel}
use Rattle.layer_traits.specs.{Layers.Sleeping.{sleep_answer, sleep_moves, woken_by}, Threads.Passes.{own_slept, own_woken, passed_on, queue_for}}
use Rattle.layer_traits.{specs.Threads.Places.{Step, Threads}, proofs.{CallLemmas.{moves_append, moves_others, moves_over}, PlaceLemmas.woken_current}}
use Rattle.fifo_buffer.specs.declared.monitor_blocks.{MonitorEdit.MonitorEdit, MonitorReply.{MonitorReply, TheVariants.{Acted, Refused, Woke}}}
use Rattle.fifo_buffer.specs.Monitors.{MonitorState, monitor_effect, monitor_joins, monitor_leaves, monitor_rules, monitor_told_by}
use Rattle.fifo_buffer.specs.{SectionPolls.calling_after, MonitorHistories.{MonitorLocked, monitor_after, monitor_effect_by, monitor_entries, monitor_entry}}
use Rattle.fifo_buffer.specs.MonitorParts.{CallFits, CallGoes, Defers, AgreesWithStage, acted_at, ask_due, is_waking, is_woke, monitor_recorded}
use Rattle.fifo_buffer.specs.MonitorParts.{monitor_recorded_if, monitor_reply, monitor_reply_at, monitor_section, monitor_under, stage_by}
use Rattle.layer_traits.specs.declared.scheds.SchedCall.TheVariants as sched

-- an event of the monitors
abbrev pub MonitorEvent : Type 0
MonitorEvent = QueueEvent MonitorEdit

-- The effects and the moves grow with events.

-- an effect has its section's CPU
one_entry : (d cpu : CpuId) (t : Tid) (b : BufId) (o : Option Effect) → same_cpu cpu d ≡ false
    → AreOthers cpu_of_entry d (option_to_list (option_map (entry_of cpu t b) o))
one_entry d cpu t b None other = tt
one_entry d cpu t b (Some f) other = (other, tt)

module _ (O : LockId → Option MonitorLocked) where
  -- the effects of one event, and of some
  abbrev entries_by : CpuId → QueueCall MonitorEdit → List MonitorEvent → List Entry
  entries_by cpu (Push d t) past = []
  entries_by cpu (TakeAll d) past = []
  entries_by cpu (OnBuffer b e) past = option_to_list (monitor_entry cpu (Buffer b) e (monitor_after O (Buffer b) (buffer_sections past)))

  abbrev pub entries_over : List MonitorEvent → List MonitorEvent → List Entry
  entries_over [] past = []
  entries_over (e ∷ more) past = entries_by e.cpu e.call (more ++ past) ++ entries_over more past

  pub entries_append : (more past : List MonitorEvent)
      → monitor_entries O (buffer_sections (more ++ past)) ≡ entries_over more past ++ monitor_entries O (buffer_sections past)
  entries_append [] past = refl
  entries_append (e ∷ more) past = go e.call (entries_append more past)
    where
      go : (call : QueueCall MonitorEdit)
          → monitor_entries O (buffer_sections (more ++ past)) ≡ entries_over more past ++ monitor_entries O (buffer_sections past)
          → monitor_entries O (with_section e.cpu call (buffer_sections (more ++ past)))
          ≡ (entries_by e.cpu call (more ++ past) ++ entries_over more past) ++ monitor_entries O (buffer_sections past)
      go (Push d t) rest = rest
      go (TakeAll d) rest = rest
      go (OnBuffer b x) rest =
          ap (λ es. entries_by e.cpu (OnBuffer b x) (more ++ past) ++ es) rest
          ∙ sym (append_assoc (entries_by e.cpu (OnBuffer b x) (more ++ past)) (entries_over more past) (monitor_entries O (buffer_sections past)))

  pub entries_others : (d : CpuId) (more past : List MonitorEvent) → AreOthers cpu_of_queue_event d more
      → AreOthers cpu_of_entry d (entries_over more past)
  entries_others d [] past others = tt
  entries_others d (e ∷ more) past others =
      others_both cpu_of_entry d (entries_by e.cpu e.call (more ++ past)) (entries_over more past) (go e.call) (entries_others d more past others.1)
    where
      go : (call : QueueCall MonitorEdit) → AreOthers cpu_of_entry d (entries_by e.cpu call (more ++ past))
      go (Push q t) = tt
      go (TakeAll q) = tt
      go (OnBuffer b x) = one_entry d e.cpu x.thread b (monitor_effect_by x (monitor_after O (Buffer b) (buffer_sections (more ++ past)))) others.0

module _ {E B O : Type 0} (k : Kernel E B O) where
  all_own : (c : CpuId) (mine past : List (QueueEvent E)) → AllByRecursion (λ (e : QueueEvent E). e.cpu ≡ c) mine
      → AllByRecursion (λ (s : Step). s.cpu ≡ c) (moves_over k mine past)
  all_own c [] past local = tt
  all_own c (e ∷ mine) past local = (local.0, all_own c mine past local.1)

  -- the moves grow by those of others, and then by this CPU's own
  pub moves_have_grown : (ActsFor Acts : CpuId → Type 0) (c : CpuId) (mine others old new : List (QueueEvent E))
      → ((d : CpuId) → Acts d → ActsFor d) → AreForeign ActsFor cpu_of_queue_event others → AllByRecursion (λ (e : QueueEvent E). e.cpu ≡ c) mine
      → new ≡ mine ++ (others ++ old) → MovesGrow Acts c (moves_in k old) (moves_in k new)
  moves_have_grown ActsFor Acts c mine others old new weaker foreign local is = record {
    others = moves_over k others old;
    mine = moves_over k mine (others ++ old);
    foreign = λ d acts. moves_others k d others old (foreign d (weaker d acts));
    local = all_own c mine (others ++ old) local;
    is = ap (moves_in k) is
        ∙ moves_append k mine (others ++ old) ∙ ap (λ steps. moves_over k mine (others ++ old) ++ steps) (moves_append k others old);
  }

-- A poll of a section.

-- the call of a thread continues: it has begun, and its call state agrees with its stage
pub record Begun (call : Call) (call_state : CallState) (local : Sleeping MonitorReply) : Type 0 where
  pub called : call_state.call ≡ Some call
  pub begun : call_state.stage ≢ Idle
  pub coupled : AgreesWithStage call_state.stage call_state.effect
  pub midway : Defers call_state.stage local.deferred local.threads.hand

-- the state of a call after a poll: the poll returned no result; its thread sleeps, and tries again
-- once it is woken; it wakes another next; or it is over
pub data CallStands (t : Tid) (call : Call) (call_state later : CallState) (got : Left (Sleeping MonitorReply) (Outcome MonitorReply)) : Type 0 where
  continues : got.answer ≡ None → later ≡ call_state → got.local.threads.current ≡ Some t
      → Defers call_state.stage got.local.deferred got.local.threads.hand → CallStands t call call_state later got
  sleeps : IsSome got.answer → later ≡ call_state → got.local.threads.current ≡ None → got.local.deferred ≡ None → CallStands t call call_state later got
  goes : IsSome got.answer → is_waking later.stage ≡ true → later.call ≡ Some call → IsSome later.effect → got.local.threads.current ≡ Some t
      → got.local.threads.hand ≡ None → got.local.deferred ≡ None → CallStands t call call_state later got
  over : IsSome got.answer → later.stage ≡ Idle → (f : Effect) → later.effect ≡ Some f → got.local.threads.current ≡ Some t
      → got.local.threads.hand ≡ None → got.local.deferred ≡ None → CallStands t call call_state later got

-- what a poll of a section did
pub record Did (opening : LockId → Option (QueueBlock MonitorLocked)) (ActsFor : CpuId → Type 0) (c : CpuId) (t : Tid) (call : Call)
    (call_state later : CallState) (old new : List MonitorEvent) (local : Sleeping MonitorReply)
    (got : Left (Sleeping MonitorReply) (Outcome MonitorReply)) : Type 0 where
  pub others : List MonitorEvent
  pub mine : List MonitorEvent
  pub foreign : AreForeign ActsFor cpu_of_queue_event others
  pub own_events : AllByRecursion (λ (e : MonitorEvent). e.cpu ≡ c) mine
  pub is : new ≡ mine ++ (others ++ old)
  pub effect : Option Effect
  pub effects : monitor_entries (inner opening) (buffer_sections new)
      ≡ option_to_list (option_map (entry_of c t (buffer_of call)) effect) ++ monitor_entries (inner opening) (buffer_sections (others ++ old))
  pub fresh : (f : Effect) → effect ≡ Some f → (call_state.effect ≡ None) × (later.effect ≡ Some f) × IsEffectOf call f
  pub stays : effect ≡ None → later.effect ≡ call_state.effect
  pub ended : got.local.threads.ended ≡ local.threads.ended
  pub stands : CallStands t call call_state later got

-- the stage after a call had its effect
stage_waking : (local : Side) (side : Side) → is_waking (stage_by local (Some side)) ≡ true
stage_waking Receivers Receivers = refl
stage_waking Receivers Senders = refl
stage_waking Senders Receivers = refl
stage_waking Senders Senders = refl

waking_call : (call : Call) (stage : Stage) (effect : Option Effect) → is_waking stage ≡ true
    → (is_waking (acted_at call stage effect).stage ≡ true) × ((acted_at call stage effect).call ≡ Some call) × ((acted_at call stage effect).effect ≡ effect)
waking_call call stage effect is = grind arith

acted_effect : (call : Call) (stage : Stage) (effect : Option Effect) → (acted_at call stage effect).effect ≡ effect
acted_effect call stage effect = grind arith

-- the state of a call that had this effect, and whose thread runs
acted_stands : (t : Tid) (call : Call) (call_state : CallState) (next : Option Side) (f : Effect) (effect : Option Effect)
    (got : Left (Sleeping MonitorReply) (Outcome MonitorReply)) → effect ≡ Some f → IsSome got.answer → got.local.threads.current ≡ Some t
    → got.local.threads.hand ≡ None → got.local.deferred ≡ None → CallStands t call call_state (acted_at call (stage_by (side_of call) next) effect) got
acted_stands t call call_state None f effect got has answered current hand deferred = over answered refl f has current hand deferred
acted_stands t call call_state (Some side) f effect got has answered current hand deferred =
    let both = waking_call call (stage_by (side_of call) (Some side)) effect (stage_waking (side_of call) side) in
    goes answered both.0 both.1 (subst (λ o. IsSome o) (sym (both.2 ∙ has)) refl) current hand deferred

-- a kind of effect is that of its call
told_kind : (t : Tid) (call : Call) (x : MonitorState) (f : Effect) (next : Option Side) → monitor_told_by t (ask_due Acquires call) x ≡ Acted f next
    → IsEffectOf call f
told_kind t call x f next is = grind arith

-- a call that tries either acts or waits
abbrev Tries : MonitorReply → Type 0
Tries (Acted f next) = Unit {0}
Tries (Refused side) = Unit {0}
Tries (Woke woke next) = ⊥

told_tries : (t : Tid) (call : Call) (x : MonitorState) → Tries (monitor_told_by t (ask_due Acquires call) x)
told_tries t call x = grind arith

told_wakes : (t : Tid) (call : Call) (stage : Stage) (x : MonitorState) → is_waking stage ≡ true
    → is_woke (monitor_told_by t (ask_due stage call) x) ≡ true
told_wakes t call stage x is = grind arith

-- a call that wakes has had its effect, and one that does not tries
waking_effect : (stage : Stage) (effect : Option Effect) → is_waking stage ≡ true → AgreesWithStage stage effect → (f : Effect) × (effect ≡ Some f)
waking_effect stage None is coupled = absurd (grind arith)
waking_effect stage (Some f) is coupled = (f, refl)

trying_stage : (stage : Stage) (effect : Option Effect) → is_waking stage ≡ false → stage ≢ Idle → AgreesWithStage stage effect
    → (stage ≡ Acquires) × (effect ≡ None)
trying_stage stage effect is begun coupled = grind arith

-- what a section leaves that is done, if its outcome is returned, and if it is deferred
left_returned : (o : Outcome MonitorReply) (threads : Threads) → must_send o threads ≡ false
    → left_done o threads ≡ record { local = record { threads = threads; deferred = None }; answer = Some o }
left_returned o threads is = rw is refl

left_deferred : (o : Outcome MonitorReply) (threads : Threads) → must_send o threads ≡ true
    → left_done o threads ≡ record { local = record { threads = threads; deferred = Some o }; answer = None }
left_deferred o threads is = rw is refl

woke_recorded : (call : Call) (call_state : CallState) (out : MonitorReply) → is_woke out ≡ true
    → (next : Option Side) × (monitor_recorded call call_state out ≡ acted_at call (stage_by (side_of call) next) call_state.effect)
woke_recorded call call_state (Acted f next) is = absurd (cc is)
woke_recorded call call_state (Refused side) is = absurd (cc is)
woke_recorded call call_state (Woke woke next) is = (next, refl)

module _ (homes : List CpuId) (c : CpuId) (t : Tid) (call : Call) (call_state : CallState) (local : Sleeping MonitorReply)
    (current : local.threads.current ≡ Some t) (goes_on : Begun call call_state local) where
  -- a section was done with this outcome, and left this
  pub record Done (o : Outcome MonitorReply) (l : Left (Sleeping MonitorReply) (Outcome MonitorReply)) : Type 0 where
    pub stands : CallStands t call call_state (monitor_recorded_if call call_state l.answer) l
    pub ended : l.local.threads.ended ≡ local.threads.ended
    pub fresh : (f : Effect) → monitor_effect o.out ≡ Some f
        → (call_state.effect ≡ None) × ((monitor_recorded_if call call_state l.answer).effect ≡ Some f) × IsEffectOf call f
    pub stays : monitor_effect o.out ≡ None → (monitor_recorded_if call call_state l.answer).effect ≡ call_state.effect

  -- its thread had an effect
  acted_done : (f : Effect) (next : Option Side) → local.threads.hand ≡ None → call_state.effect ≡ None → IsEffectOf call f
      → Done (record { out = Acted f next; slept = false; woke = None })
      (left_done (record { out = Acted f next; slept = false; woke = None }) local.threads)
  acted_done f next hand none kind =
      subst (λ l. Done (record { out = Acted f next; slept = false; woke = None }) l)
      (sym (left_returned (record { out = Acted f next; slept = false; woke = None }) local.threads (ap (λ (h : Option Tid). is_some h) hand)))
      (record {
        stands = acted_stands t call call_state next f (Some f)
            (record { local = record { threads = local.threads; deferred = None }; answer = Some (record { out = Acted f next; slept = false; woke = None }) })
            refl refl current hand refl;
        ended = refl;
        fresh = λ g is. (none, acted_effect call (stage_by (side_of call) next) (Some f) ∙ is, subst (IsEffectOf call) (same_Some f g is) kind);
        stays = λ no. absurd (cc no);
      })

  -- its thread waits
  refused_done : (side : Side) → Done (record { out = Refused side; slept = true; woke = None })
      (left_done (record { out = Refused side; slept = true; woke = None }) (own_slept (monitor_joins (Refused side)) local.threads))
  refused_done Receivers = record {
    stands = sleeps refl refl refl refl;
    ended = refl;
    fresh = λ g is. absurd (cc is);
    stays = λ no. refl;
  }
  refused_done Senders = record {
    stands = sleeps refl refl refl refl;
    ended = refl;
    fresh = λ g is. absurd (cc is);
    stays = λ no. refl;
  }

  -- its thread woke another, or no thread
  woke_done : (o : Outcome MonitorReply) → is_waking call_state.stage ≡ true → is_woke o.out ≡ true → o.slept ≡ false
      → Done o (left_done o (own_woken homes c o.woke local.threads))
  woke_done o waking woke awake = go (must_send o (own_woken homes c o.woke local.threads)) refl
    where
      had : (f : Effect) × (call_state.effect ≡ Some f)
      had = waking_effect call_state.stage call_state.effect waking goes_on.coupled

      runs : (own_woken homes c o.woke local.threads).current ≡ Some t
      runs = woken_current homes c o.woke local.threads ∙ current

      ends : (woke : Option Tid) → (own_woken homes c woke local.threads).ended ≡ local.threads.ended
      ends woke = grind arith

      none_of : (out : MonitorReply) → is_woke out ≡ true → monitor_effect out ≡ None
      none_of out is = grind arith

      empty : (hand : Option Tid) → (not o.slept && is_some hand) ≡ false → hand ≡ None
      empty hand is = grind (arith, awake)

      go : (v : Bool) → must_send o (own_woken homes c o.woke local.threads) ≡ v → Done o (left_done o (own_woken homes c o.woke local.threads))
      go true sends = subst (Done o) (sym (left_deferred o (own_woken homes c o.woke local.threads) sends)) (record {
        stands = continues refl refl runs (waking, woke);
        ended = ends o.woke;
        fresh = λ f is. absurd (cc (none_of o.out woke, is));
        stays = λ no. refl;
      })
      go false returns = subst (Done o) (sym (left_returned o (own_woken homes c o.woke local.threads) returns)) (record {
        stands = subst (λ later. CallStands t call call_state later
            (record { local = record { threads = own_woken homes c o.woke local.threads; deferred = None }; answer = Some o }))
            (sym (woke_recorded call call_state o.out woke).1)
            (acted_stands t call call_state (woke_recorded call call_state o.out woke).0 had.0 call_state.effect
            (record { local = record { threads = own_woken homes c o.woke local.threads; deferred = None }; answer = Some o }) had.1 refl runs
            (empty (own_woken homes c o.woke local.threads).hand returns) refl);
        ended = ends o.woke;
        fresh = λ f is. absurd (cc (none_of o.out woke, is));
        stays = λ no. ap (λ (s : CallState). s.effect) (woke_recorded call call_state o.out woke).1
            ∙ acted_effect call (stage_by (side_of call) (woke_recorded call call_state o.out woke).0) call_state.effect;
      })

  -- what any section of the call leaves that is done
  section_done : (state : MonitorLocked) (v : Bool) → is_waking call_state.stage ≡ v → local.deferred ≡ None
      → Done (sleep_answer monitor_rules (monitor_section t call call_state.stage) state)
      (left_done (sleep_answer monitor_rules (monitor_section t call call_state.stage) state)
      (own_answered (sleep_moves monitor_rules) homes c (Some (sleep_answer monitor_rules (monitor_section t call call_state.stage) state)) local.threads))
  section_done state true waking rests = wakes state (told_wakes t call call_state.stage state.above waking)
    where
      wakes_on : (out : MonitorReply) → is_woke out ≡ true → monitor_joins out ≡ None
      wakes_on out is = grind arith

      wakes : (s : MonitorLocked) → is_woke (monitor_told_by t (ask_due call_state.stage call) s.above) ≡ true
          → Done (sleep_answer monitor_rules (monitor_section t call call_state.stage) s)
          (left_done (sleep_answer monitor_rules (monitor_section t call call_state.stage) s)
          (own_answered (sleep_moves monitor_rules) homes c (Some (sleep_answer monitor_rules (monitor_section t call call_state.stage) s)) local.threads))
      wakes s woke =
          let joins = wakes_on (monitor_told_by t (ask_due call_state.stage call) s.above) woke in
          let o = sleep_answer monitor_rules (monitor_section t call call_state.stage) s in
          subst (λ (w : Option WaitList). Done o (left_done o (own_woken homes c o.woke (own_slept w local.threads)))) (sym joins)
          (woke_done o waking woke (ap (λ (w : Option WaitList). is_some w) joins))
  section_done state false trying rests =
      let stage = trying_stage call_state.stage call_state.effect trying goes_on.begun goes_on.coupled in
      let hand : local.threads.hand ≡ None
      = subst (λ (o : Option (Outcome MonitorReply)). Defers call_state.stage o local.threads.hand) rests goes_on.midway in
      subst (λ (s : Stage). Done (sleep_answer monitor_rules (monitor_section t call s) state)
      (left_done (sleep_answer monitor_rules (monitor_section t call s) state)
      (own_answered (sleep_moves monitor_rules) homes c (Some (sleep_answer monitor_rules (monitor_section t call s) state)) local.threads)))
      (sym stage.0) (tries (monitor_told_by t (ask_due Acquires call) state.above) refl (told_tries t call state.above) hand stage.1)
    where
      -- the outcome with this result
      outcome : MonitorReply → Outcome MonitorReply
      outcome out = record {
        out = out;
        slept = is_some (monitor_joins out);
        woke = woken_by (monitor_leaves out) state.sleepers state.receivers state.senders;
      }

      tries : (out : MonitorReply) → monitor_told_by t (ask_due Acquires call) state.above ≡ out → Tries out → local.threads.hand ≡ None
          → call_state.effect ≡ None
          → Done (outcome out) (left_done (outcome out) (own_answered (sleep_moves monitor_rules) homes c (Some (outcome out)) local.threads))
      tries (Acted f next) is may hand none =
          acted_done f next hand none (told_kind t call state.above f next is)
      tries (Refused Receivers) is may hand none = refused_done Receivers
      tries (Refused Senders) is may hand none = refused_done Senders
      tries (Woke woke next) is may hand none = absurd may

module _ (opening : LockId → Option (QueueBlock MonitorLocked)) {ActsFor : CpuId → Type 0} (c : CpuId) (t : Tid) (call : Call) (call_state : CallState)
    (old new : List MonitorEvent) (local : Sleeping MonitorReply) (got : Left (Sleeping MonitorReply) (Outcome MonitorReply))
    (current : local.threads.current ≡ Some t) (goes_on : Begun call call_state local)
    (polled : SleepPolled (sleep_kernel monitor_rules opening) ActsFor c (buffer_of call) (monitor_section t call call_state.stage) old new local got) where
  abbrev before : List MonitorEvent
  before = polled.others ++ old

  abbrev k : Kernel MonitorEdit MonitorLocked (Outcome MonitorReply)
  k = sleep_kernel monitor_rules opening

  abbrev e : MonitorEdit
  e = monitor_section t call call_state.stage

  abbrev entries : List MonitorEvent → List Entry
  entries log = monitor_entries (inner opening) (buffer_sections log)

  -- what the poll did, if it left this
  abbrev DidLeave : Left (Sleeping MonitorReply) (Outcome MonitorReply) → Type 0
  DidLeave l = Did opening ActsFor c t call call_state (monitor_recorded_if call call_state l.answer) old new local l

  -- the section was done
  does : (outcome : Outcome MonitorReply) (state : MonitorLocked)
      → monitor_after (inner opening) (Buffer (buffer_of call)) (buffer_sections before) ≡ Some state
      → sleep_answer monitor_rules e state ≡ outcome → local.deferred ≡ None → new ≡ event c (OnBuffer (buffer_of call) e) ∷ before
      → DidLeave (left_done outcome (own_answered k.moves k.homes c (Some outcome) local.threads))
  does outcome state at out rests is =
      subst (λ o. DidLeave (left_done o (own_answered k.moves k.homes c (Some o) local.threads))) out
      (let done = section_done k.homes c t call call_state local current goes_on state (is_waking call_state.stage) refl rests in
      record {
        others = polled.others;
        mine = event c (OnBuffer (buffer_of call) e) ∷ [];
        foreign = polled.foreign;
        own_events = (refl, tt);
        is = is;
        effect = monitor_effect (sleep_answer monitor_rules e state).out;
        effects = ap entries is
            ∙ ap (λ o. option_to_list (option_map (entry_of c t (buffer_of call)) (monitor_effect_by e o)) ++ entries before) at;
        fresh = done.fresh;
        stays = done.stays;
        ended = done.ended;
        stands = done.stands;
      })

  done_at : (outcome : Outcome MonitorReply) (o : Option MonitorLocked)
      → monitor_after (inner opening) (Buffer (buffer_of call)) (buffer_sections before) ≡ o → option_map (sleep_answer monitor_rules e) o ≡ Some outcome
      → local.deferred ≡ None → new ≡ event c (OnBuffer (buffer_of call) e) ∷ before
      → DidLeave (left_done outcome (own_answered k.moves k.homes c (Some outcome) local.threads))
  done_at outcome None at out rests is = absurd (cc out)
  done_at outcome (Some state) at out rests is = does outcome state at (same_Some (sleep_answer monitor_rules e state) outcome out) rests is

  -- the thread that the section woke was forwarded to its home
  sent_home : (u : Tid) (o : Option (Outcome MonitorReply)) → IsSome o → Defers call_state.stage o local.threads.hand
      → new ≡ event c (Push (queue_for k.homes c u) u) ∷ before
      → DidLeave (record { local = record { threads = passed_on local.threads; deferred = None }; answer = o })
  sent_home u None some defers is = absurd (cc some)
  sent_home u (Some outcome) some defers is =
      let next = woke_recorded call call_state outcome.out defers.1 in
      let had = waking_effect call_state.stage call_state.effect defers.0 goes_on.coupled in
      record {
        others = polled.others;
        mine = event c (Push (queue_for k.homes c u) u) ∷ [];
        foreign = polled.foreign;
        own_events = (refl, tt);
        is = is;
        effect = None;
        effects = ap entries is;
        fresh = λ f none. absurd (cc none);
        stays = λ none. ap (λ (s : CallState). s.effect) next.1 ∙ acted_effect call (stage_by (side_of call) next.0) call_state.effect;
        ended = refl;
        stands = subst (λ later. CallStands t call call_state later
            (record { local = record { threads = passed_on local.threads; deferred = None }; answer = Some outcome }))
            (sym next.1) (acted_stands t call call_state next.0 had.0 call_state.effect
            (record { local = record { threads = passed_on local.threads; deferred = None }; answer = Some outcome }) had.1 refl current refl refl);
      }

  -- what the poll did
  pub poll_did : DidLeave got
  poll_did = go polled.poll_result polled.may polled.is polled.leaves
    where
      go : (r : PollResult MonitorReply) → MayDo k c (buffer_of call) e r before local → new ≡ seen_with k c (buffer_of call) e r before
          → got ≡ left_with k c (buffer_of call) e r local → DidLeave got
      go WaitsStill may is leaves = subst DidLeave (sym leaves) (record {
        others = polled.others;
        mine = [];
        foreign = polled.foreign;
        own_events = tt;
        is = is;
        effect = None;
        effects = ap entries is;
        fresh = λ f none. absurd (cc none);
        stays = λ none. refl;
        ended = refl;
        stands = continues refl refl current goes_on.midway;
      })
      go (Does outcome) may is leaves =
          subst DidLeave (sym leaves) (done_at outcome (monitor_after (inner opening) (Buffer (buffer_of call)) (buffer_sections before)) refl may.1 may.0 is)
      go (SendsHome u) may is leaves = subst DidLeave (sym leaves) (sent_home u local.deferred may.0 goes_on.midway is)

-- What a poll of a call leaves.

no_reply : (call : Call) (stage : Stage) (effect : Option Effect) → stage ≢ Idle → monitor_reply_at call stage effect ≡ None
no_reply call Idle effect begun = absurd (begun refl)
no_reply call stage effect begun = refl

not_idle : (stage : Stage) → is_waking stage ≡ true → stage ≢ Idle
not_idle stage is idle = let one : is_waking stage ≡ false = ap is_waking idle in absurd (cc (one, is))

until_some : {A B : Type 0} (o : Option A) (x : B) → IsSome o → until_answered o x ≡ None
until_some None x some = absurd (cc some)
until_some (Some a) x some = refl

same_reply : (call : Call) (call_state later : CallState) → later ≡ call_state → call_state.stage ≢ Idle → monitor_reply call later ≡ None
same_reply call call_state later same begun =
    ap (monitor_reply call) same ∙ no_reply call call_state.stage call_state.effect begun

over_reply : (call : Call) (later : CallState) (f : Effect) → later.stage ≡ Idle → later.effect ≡ Some f → monitor_reply call later ≡ Some (reply_of call f)
over_reply call later f idle effect = λ i. monitor_reply_at call (idle i) (effect i)

-- the result agrees with the call state
pub answers_so : (t : Tid) (call : Call) (call_state later : CallState) (got : Left (Sleeping MonitorReply) (Outcome MonitorReply))
    → call_state.call ≡ Some call → call_state.stage ≢ Idle → CallStands t call call_state later got → Answered call later (monitor_reply call later)
answers_so t call call_state later got called begun (continues none same current defers) = grind arith
answers_so t call call_state later got called begun (sleeps some same current rests) = grind arith
answers_so t call call_state later got called begun (goes some waking is effect current hand rests) = grind arith
answers_so t call call_state later got called begun (over some idle f effect current hand rests) = grind arith

-- the thread runs on, or sleeps
pub runs_so : (t : Tid) (call : Call) (call_state later : CallState) (local : Threads) (got : Left (Sleeping MonitorReply) (Outcome MonitorReply))
    → call_state.stage ≢ Idle → got.local.threads.ended ≡ local.ended → CallStands t call call_state later got
    → RunsOn t local got.local.threads (monitor_reply call later)
runs_so t call call_state later local got begun ended (continues none same current defers) =
    record { current = inl current; hand = λ a is. absurd (grind arith); ended = ended }
runs_so t call call_state later local got begun ended (sleeps some same current rests) =
    record { current = inr (current, grind arith); hand = λ a is. absurd (grind arith); ended = ended }
runs_so t call call_state later local got begun ended (goes some waking is effect current hand rests) =
    record { current = inl current; hand = λ a is. hand; ended = ended }
runs_so t call call_state later local got begun ended (over some idle f effect current hand rests) =
    record { current = inl current; hand = λ a is. hand; ended = ended }

-- the call state agrees with its stage
pub stage_so : (t : Tid) (call : Call) (call_state later : CallState) (got : Left (Sleeping MonitorReply) (Outcome MonitorReply))
    → AgreesWithStage call_state.stage call_state.effect → CallStands t call call_state later got → AgreesWithStage later.stage later.effect
stage_so t call call_state later got coupled (continues none same current defers) = rw same coupled
stage_so t call call_state later got coupled (sleeps some same current rests) = rw same coupled
stage_so t call call_state later got coupled (goes some waking is effect current hand rests) = grind arith
stage_so t call call_state later got coupled (over some idle f effect current hand rests) = rw idle tt

-- whose call is under way, if its thread runs on, and if it sleeps
goes_calling : (t : Tid) (current : Option Tid) (reply : Option Reply) → current ≡ Some t → reply ≡ None → calling_after t current reply ≡ Some t
goes_calling t current reply runs silent = λ i. calling_after t (runs i) (silent i)

module _ (t : Tid) (call : Call) (call_state later : CallState) (got : Left (Sleeping MonitorReply) (Outcome MonitorReply)) where
  abbrev asked : SchedCall MonitorEdit
  asked = sched.OnBuffer (buffer_of call) (monitor_section t call call_state.stage)

  -- and what is under way agrees with it
  pub call_so : (call_states : List CallState) → call_state_of call_states t ≡ later → call_state.call ≡ Some call → call_state.stage ≢ Idle
      → CallStands t call call_state later got
      → CallFits (calling_after t got.local.threads.current (monitor_reply call later)) (until_answered got.answer asked) got.local call_states
  call_so call_states at called begun (continues none same current defers) =
      subst (λ o. CallFits o (until_answered got.answer asked) got.local call_states)
      (sym (goes_calling t got.local.threads.current (monitor_reply call later) current (same_reply call call_state later same begun)))
      (subst (λ o. CallFits (Some t) (until_answered o asked) got.local call_states) (sym none)
      (subst (λ (s : CallState). CallGoes t (Some asked) got.local s) (sym (at ∙ same)) (record {
        call = call;
        is = called;
        begun = begun;
        current = current;
        section = (refl, refl, defers);
      })))
  call_so call_states at called begun (sleeps some same current rests) =
      subst (λ o. CallFits (calling_after t o (monitor_reply call later)) (until_answered got.answer asked) got.local call_states) (sym current)
      (subst (λ o. CallFits None o got.local call_states) (sym (until_some got.answer asked some)) (tt, rests))
  call_so call_states at called begun (goes some waking is effect current hand rests) =
      subst (λ o. CallFits o (until_answered got.answer asked) got.local call_states)
      (sym (goes_calling t got.local.threads.current (monitor_reply call later) current (no_reply call later.stage later.effect
      (not_idle later.stage waking))))
      (subst (λ o. CallFits (Some t) o got.local call_states) (sym (until_some got.answer asked some))
      (subst (λ (s : CallState). CallGoes t None got.local s) (sym at) (record {
        call = call;
        is = is;
        begun = not_idle later.stage waking;
        current = current;
        section = (hand, rests);
      })))
  call_so call_states at called begun (over some idle f effect current hand rests) =
      subst (λ o. CallFits (calling_after t o (monitor_reply call later)) (until_answered got.answer asked) got.local call_states) (sym current)
      (subst (λ o. CallFits (calling_after t (Some t) o) (until_answered got.answer asked) got.local call_states)
      (sym (over_reply call later f idle effect))
      (subst (λ o. CallFits None o got.local call_states) (sym (until_some got.answer asked some)) (tt, rests)))

pub under_so : (t : Tid) (call : Call) (call_state later : CallState) (got : Left (Sleeping MonitorReply) (Outcome MonitorReply))
    (under_way : Option (SchedCall MonitorEdit))
    → under_way ≡ until_answered got.answer (sched.OnBuffer (buffer_of call) (monitor_section t call call_state.stage))
    → call_state.stage ≢ Idle → CallStands t call call_state later got
    → monitor_under (calling_after t got.local.threads.current (monitor_reply call later)) under_way
    ≡ still_calling t got.local.threads.current (monitor_reply call later)
under_so t call call_state later got under_way is begun (continues none same current defers) = grind arith
under_so t call call_state later got under_way is begun (sleeps some same current rests) = grind arith
under_so t call call_state later got under_way is begun (goes some waking was effect current hand rests) = grind arith
under_so t call call_state later got under_way is begun (over some idle f effect current hand rests) = grind arith

-- Before a poll of a call.

-- its section may be polled, and the call continues
pub record MayPollSo (k : Kernel MonitorEdit MonitorLocked (Outcome MonitorReply)) (c : CpuId) (past : List MonitorEvent) (t : Tid) (call : Call)
    (call_state : CallState) (local : Sleeping MonitorReply) (under_way : Option (SchedCall MonitorEdit)) : Type 0 where
  pub may : MayCall under_way (sched.OnBuffer (buffer_of call) (monitor_section t call call_state.stage))
      (MaySleep k c past local.threads (buffer_of call) (monitor_section t call call_state.stage))
  pub goes : Begun call call_state local

going_fits : (call_state : CallState) (call : Call) → AgreesWithStage call_state.stage call_state.effect
    → AgreesWithStage (going call_state call).stage (going call_state call).effect
going_fits call_state call coupled = grind arith

going_begun : (call_state : CallState) (call : Call) → (going call_state call).stage ≢ Idle
going_begun call_state call is = grind arith

going_same : (call_state : CallState) (call : Call) → call_state.stage ≢ Idle → going call_state call ≡ call_state
going_same call_state call begun = grind arith

module _ (opening : LockId → Option (QueueBlock MonitorLocked)) (c : CpuId) (past : List MonitorEvent) (t : Tid) (call : Call) (local : Sleeping MonitorReply)
    (call_states : List CallState) (runs : local.threads.current ≡ Some t) (may : MayPollCall (call_state_of call_states t) call)
    (stages : AgreesWithStage (call_state_of call_states t).stage (call_state_of call_states t).effect) where
  abbrev this : CallState
  this = going (call_state_of call_states t) call

  -- a section begins
  begins : local.threads.hand ≡ None → local.deferred ≡ None → MayPollSo (sleep_kernel monitor_rules opening) c past t call this local None
  begins hand rests = record {
    may = record { current = runs; hand = hand; stays = λ more others lawful. tt };
    goes = record {
      called = may;
      begun = going_begun (call_state_of call_states t) call;
      coupled = going_fits (call_state_of call_states t) call stages;
      midway = subst (λ (o : Option (Outcome MonitorReply)). Defers this.stage o local.threads.hand) (sym rests) hand;
    };
  }

  pub poll_may : (under_way : Option (SchedCall MonitorEdit)) (calling : Option Tid) → CallFits calling under_way local call_states
      → (monitor_under calling under_way ≡ None → local.threads.hand ≡ None) → MayGoOn (monitor_under calling under_way) (Calling t)
      → MayPollSo (sleep_kernel monitor_rules opening) c past t call this local under_way
  poll_may None None coupled hand goes_on = begins (hand refl) coupled.1
  poll_may (Some (sched.Pass p)) None coupled hand goes_on = absurd (cc goes_on)
  poll_may (Some (sched.OnBuffer b e)) None coupled hand goes_on = absurd coupled.0
  poll_may under_way (Some v) coupled hand goes_on = go under_way (subst (λ u. CallGoes u under_way local (call_state_of call_states u)) same coupled)
    where
      same : v ≡ t
      same = cc goes_on

      go : (w : Option (SchedCall MonitorEdit)) → CallGoes t w local (call_state_of call_states t)
          → MayPollSo (sleep_kernel monitor_rules opening) c past t call this local w
      go None its = begins its.section.0 its.section.1
      go (Some (sched.Pass p)) its = absurd its.section
      go (Some (sched.OnBuffer b e)) its =
          let stays : this ≡ call_state_of call_states t = going_same (call_state_of call_states t) call its.begun in
          let one : its.call ≡ call = same_Some its.call call (sym its.is ∙ ap (λ (s : CallState). s.call) (sym stays) ∙ may) in
          record {
            may = subst (λ (s : CallState). sched.OnBuffer b e ≡ sched.OnBuffer (buffer_of call) (monitor_section t call s.stage)) (sym stays)
                (subst (λ (k : Call). sched.OnBuffer b e ≡ sched.OnBuffer (buffer_of k) (monitor_section t k (call_state_of call_states t).stage)) one
                (λ i. sched.OnBuffer (its.section.0 i) (its.section.1 i)));
            goes = record {
              called = may;
              begun = going_begun (call_state_of call_states t) call;
              coupled = going_fits (call_state_of call_states t) call stages;
              midway = subst (λ (s : CallState). Defers s.stage local.deferred local.threads.hand) (sym stays) its.section.2;
            };
          }
