-- The plan of each section of a call is a row of the table, while the hand is empty: its caller
-- acquires, enters, tries, waits, signals and releases.
use Rattle.std.proofs.Common.{◌≡◌, ◌⊎◌, inl, inr, ℕ, ◌<◌, Bool, true, false, List, [], ◌∷◌, ◌++◌, length, slice_get, slice_set, Option, Some, None, IsSome}
use Rattle.std.proofs.{Common.{is_some, if◌then◌else◌, refl, ap, sym, ◌∙◌, subst, arith, lt-ltb, ◌≢◌}, lemmas.List.{get_or-set_same, get_or-set_other}}
use Rattle.std.proofs.lemmas.List.{set-get_or}
use Rattle.layer_traits.specs.{Threads.{RunQueue.joins, Places.{Threads, is_cpu}}, declared.calls.Call.{Call as TowerCall, TheVariants.{Send, Recv, Close}}}
use Rattle.layer_traits.specs.declared.{calls.{Effect.Effect, Reply.Reply}, locked.{QLockReply.QLockReply, QLockCall.TheVariants.Release, Side.Side}}
use Rattle.layer_traits.specs.declared.{locked.Side.TheVariants.{Receivers, Senders}, conditions.{CvReply.CvReply, CvLeave.TheVariants.Wait}}
use Rattle.layer_traits.specs.declared.buffer_edits.{BufferEdit.BufferEdit, BufferReply.{BufferReply, TheVariants.{Entered, NotYet, Done, WasShut}}}
use Rattle.layer_traits.specs.declared.call_states.{CallState.CallState, Stage.{Stage, TheVariants.{Idle, Acquires, Enters, Tries, Waits, AcquiresAgain}}}
use Rattle.layer_traits.specs.{declared.call_states.Stage.TheVariants.{Signals, SignalsOwn, Releases}, Blocks.BufferBlocks.{BufferState, buffer_answer}}
use Rattle.layer_traits.specs.{Blocks.BufferProtocol.buffer_rules, Layers.BufferLaw.{BufferPlan, Buffering, buffer_of, first_of, going, left_recorded, no_call}}
use Rattle.layer_traits.specs.Layers.{BufferLaw.{call_state_of, try_of, entry_of, plan_at, reply_of, section_at as call_section}, Conditions.CvCall}
use Rattle.layer_traits.specs.Layers.{CvLaw.{Waiting, left_waiting}, QLockLaw.{Locking, left_after, slept_for}, QLocking.{LockState, lock_answer, lock_moves}}
use Rattle.layer_traits.specs.{Layers.{QLocking.{wait_list_asked, asker_report}, SleepLaw.{Sleeping, left_done, sleep_plan}}, Polling.Plans.{Left, Plan, Now}}
use Rattle.{layer_traits.{specs.Polling.Plans.{Act, raised}, proofs.CountLemmas.same_cpu_sym}, event_log.specs.declared.{entries.Entry.Entry, ids.BufId.BufId}}
use Rattle.event_log.specs.{declared.ids.{LockId.TheVariants.Buffer, Tid.Tid, CpuId.CpuId}, History.same_cpu, Messages.{Message, no_message}}
use Rattle.{guest.specs.State.{State, next_of}, thread_blocks.specs.Queues.{is_in, first}, cpu.specs.{Guests.after_answer, Table.Blocks.kind_for}}
use Rattle.cpu.specs.Table.{Setups.{Call, Thread, CpuLocal, home_cpu, program_of, thread_at}, Choice.{after_section, at_buffer, with_told, returned_at}}
use Rattle.cpu.specs.{Table.Choice.{section_due, settled, slept_if, woken}, Tower.Views.{TowerAnswer, TowerBlock, TowerName, TowerReply, answer_view, name_of}}
use Rattle.cpu.specs.Tower.{Views.{tower, report_in}, Composed.{HandIsKnown, IsKind, IsLine, IsLined, CallStands, FitsStage, asks, enters, tries}}
use Rattle.cpu.specs.Tower.{Composed.{waits as stands_waits, asks_anew, signals, signals_own, releases}, Privates.{asks_in, call_from, state_at, guests_after}}
use Rattle.cpu.{specs.Tower.Privates.{call_message, cpu_local_after, cpu_local_of, thread_from, trace_after, tid}, proofs.Tower.Callers.{Site, call_state_at}}
use Rattle.cpu.proofs.Tower.{ChangedThread.{runner_goes, thread_gone, numbered_long, own_at, part_at, parts, threads_at}, SettledAnswers.{asks_for, calling}}
use Rattle.cpu.proofs.Tower.SettledAnswers.{done_with, from_t, goes_on, recorded_is, put, returns}
use Rattle.event_log.specs.declared.entries.Kind.TheVariants as kind
use Rattle.layer_traits.specs.declared.queue_edits.QueueEdit.TheVariants as queue
use Rattle.layer_traits.specs.declared.queue_edits.QueueAnswer.TheVariants as told
use Rattle.layer_traits.specs.declared.locked.QLockReply.TheVariants as lock
use Rattle.layer_traits.specs.declared.conditions.CvReply.TheVariants as cv
use Rattle.layer_traits.specs.declared.queue_edits.QueueBlock.TheVariants as block

-- A call's sections, by what it asks for.

-- a call that closes
abbrev pub IsShutting : TowerCall → Type 0
IsShutting (Close b) = Unit {0}
IsShutting given = ⊥

-- its first section draws the position of a call in a line, and closes the buffer for a close
pub record Draws (t : Tid) (call : TowerCall) (x : BufferState) : Type 0 where
  pub lined : IsLined call
  pub pos : ℕ
  pub is : buffer_answer (first_of t call) x ≡ Entered pos

pub record Shuts (t : Tid) (call : TowerCall) (x : BufferState) : Type 0 where
  pub shuts : IsShutting call
  pub op : ℕ
  pub pos : ℕ
  pub is : buffer_answer (first_of t call) x ≡ WasShut op pos

pub first_answer : (t : Tid) (call : TowerCall) (x : BufferState) → Draws t call x ⊎ Shuts t call x
first_answer t (Send b m) x = inl (record { lined = tt; pos = x.sends; is = refl })
first_answer t (Recv b) x = inl (record { lined = tt; pos = x.receives; is = refl })
first_answer t (Close b) x = inr (record { shuts = tt; op = x.effects; pos = x.closes; is = refl })

-- a try that takes effect: it found the buffer closed or not, and then the call's own message stays
pub record Tried (t : Tid) (call : TowerCall) (x : BufferState) : Type 0 where
  pub closed : Bool
  pub op : ℕ
  pub message : Message
  pub is : buffer_answer (try_of t call) x ≡ Done (kind_for (asks_in call) closed) op message
  pub same : closed ≡ true → message ≡ call_message call None

pub try_answer : (t : Tid) (call : TowerCall) (x : BufferState) → IsLined call → (buffer_answer (try_of t call) x ≡ NotYet) ⊎ Tried t call x
try_answer t (Send b m) x lined = grind arith
try_answer t (Recv b) x lined = grind (arith, lt-ltb)
try_answer t (Close b) x lined = absurd lined

-- What the table hears.

-- the effect of a try that found the buffer closed or not
abbrev pub effect_by : TowerCall → (closed : Bool) → (op : ℕ) → Message → (pos : ℕ) → Effect
effect_by call closed op m pos = record { kind = kind_for (asks_in call) closed; value = m; op = op; pos = pos }

-- that of a close
abbrev pub shut_effect : (op pos : ℕ) → Effect
shut_effect op pos = record { kind = kind.Close; value = no_message; op = op; pos = pos }

abbrev pub react_in : {N R S A : Type 0} → Plan N R S A → Option R → Left S A
react_in (Now left) = λ reply. left
react_in (Act lock name react) = react

-- the effect that the call has had
abbrev pub HasHad : Site → Option Effect → Type 0
HasHad call_site effect = (going (call_state_of call_site.call_states call_site.t) call_site.call).effect ≡ effect

-- the outcome of a section that woke no thread, and of one that woke a thread, whose caller
-- continues
abbrev pub quiescent_out : QLockReply (CvReply BufferReply) → TowerReply
quiescent_out out = record { out = out; slept = false; woke = None }

abbrev pub waking_out : QLockReply (CvReply BufferReply) → Tid → TowerReply
waking_out out u = record { out = out; slept = false; woke = Some u }

-- the results of an Acquire, of an edit inside, of a signal, a leave and a wait
abbrev pub asked_out : Option Tid → TowerReply
asked_out o = record { out = asker_report o; slept = is_some (wait_list_asked o); woke = None }

abbrev pub did_out : BufferReply → TowerReply
did_out o = quiescent_out (lock.Did (cv.Did o))

abbrev pub signal_out : CvReply BufferReply → Option Tid → TowerReply
signal_out v o = record { out = lock.Did v; slept = false; woke = o }

abbrev pub left_out : Option Tid → TowerReply
left_out o = record { out = lock.Released cv.Left; slept = false; woke = o }

abbrev pub wait_out : Side → Option Tid → TowerReply
wait_out side o = record { out = lock.Released (cv.Waited side); slept = true; woke = o }

-- The premises of a thread's section, whatever is in the hand, and the guests after it.

module _ (call_site : Site) where
  open call_site use {setup, c, runner, t, slept, waits, guests, call}

  abbrev pub guest_by : Option Reply → State
  guest_by None = state_at guests t
  guest_by (Some reply) = after_answer (Some reply) (next_of (program_of setup t) (state_at guests t)) (state_at guests t)

  pub guests_by : (answer : Option Reply) → guests_after setup t answer guests ≡ slice_set guests t.0 (guest_by answer)
  guests_by answer = grind (arith, set-get_or)

  abbrev pub beneath : (hand : Option Tid) (deferred : Option TowerReply) → CvCall BufferEdit → Plan TowerName TowerAnswer (Waiting BufferReply) TowerReply
  beneath hand deferred s = raised (λ l. left_waiting ((lock_moves buffer_rules).caller s) (buffer_of call) waits l.local l.answer)
      (raised (λ l. left_after ((lock_moves buffer_rules).caller s) (buffer_of call) slept l.local l.answer)
      (sleep_plan (lock_moves buffer_rules) setup.homes c (buffer_of call) s (part_at runner hand deferred).cv.lock.sleep))

-- a call that has had no new effect writes no entry
same_trace : (c : CpuId) (t : Tid) (b : BufId) (effect : Option Effect) (trace : List Entry) → trace_after c t b effect effect trace ≡ trace
same_trace c t b effect trace = grind arith

module _ (call_site : Site) (effect : Option Effect) (is_effect : HasHad call_site effect) where
  open call_site use {setup, c, runner, t, ready, ended, slept, waits, call_states, guests, trace, call, position}
  open call_site use {in_guests, in_call_states, in_slept, in_waits, is_slept, is_waits}

  abbrev pub local : Buffering
  local = part_at runner None None

  abbrev pub g : State
  g = state_at guests t

  abbrev pub e : Bool
  e = is_in t ended

  abbrev pub threads : List Thread
  threads = threads_at local guests

  abbrev pub within : t.0 < length threads
  within = subst (λ n. t.0 < n) (sym (numbered_long _ 0 guests)) in_guests

  abbrev pub buf : BufId
  buf = buffer_of call

  abbrev pub call_state : Stage → CallState
  call_state stage = call_state_at call_site.caller stage effect

  abbrev pub k : Stage → Call
  k stage = call_from call position effect stage

  -- the table's private state with the call at this stage
  abbrev pub from : Stage → CpuLocal
  from stage = from_t setup c ready threads trace t g e within (k stage)

  abbrev pub after : Left Buffering Reply → CpuLocal
  after left = cpu_local_after setup c t call local guests trace left

  -- what a poll leaves after which thread t runs on
  abbrev pub left_on : (hand2 : Option Tid) (ready2 : List Tid) (deferred2 : Option TowerReply) (state2 : CallState) (answer : Option Reply)
      → Left Buffering Reply
  left_on hand2 ready2 deferred2 state2 answer =
      record { local = own_at (Some t) hand2 ready2 ended deferred2 slept waits (slice_set call_states t.0 state2); answer = answer }

  pub runs_on : (hand2 : Option Tid) (ready2 : List Tid) (deferred2 : Option TowerReply) (state2 : CallState) (answer : Option Reply)
      → after (left_on hand2 ready2 deferred2 state2 answer) ≡ parts (Some t) ready2 hand2
      (slice_set threads t.0 (thread_from state2 None None (is_some deferred2) e (guest_by call_site answer))) (trace_after c t buf effect state2.effect trace)
  runs_on hand2 ready2 deferred2 state2 answer =
      (λ i. cpu_local_of (own_at (Some t) hand2 ready2 ended deferred2 slept waits (slice_set call_states t.0 state2)) (guests_by call_site answer i)
      (trace_after c t buf (is_effect i) (get_or-set_same call_states t.0 state2 no_call in_call_states i).effect trace)) ∙ runner_goes runner None None hand2
      ready2 deferred2 state2 (guest_by call_site answer) (trace_after c t buf effect state2.effect trace) None None is_slept is_waits

  -- what a poll leaves after which thread t sleeps for the lock, or waits
  abbrev pub left_gone : (hand2 : Option Tid) (ready2 : List Tid) (slept2 waits2 : List (Option BufId)) (stage : Stage) → Left Buffering Reply
  left_gone hand2 ready2 slept2 waits2 stage =
      record { local = own_at None hand2 ready2 ended None slept2 waits2 (slice_set call_states t.0 (call_state stage)); answer = None }

  pub gone_now : (hand2 : Option Tid) (ready2 : List Tid) (slept2 waits2 : List (Option BufId)) (stage : Stage) (s w : Option BufId)
      → ((j : ℕ) → j ≢ t.0 → slept_for slept2 (tid j) ≡ slept_for slept (tid j)) → ((j : ℕ) → j ≢ t.0 → slept_for waits2 (tid j) ≡ slept_for waits (tid j))
      → slept_for slept2 t ≡ s → slept_for waits2 t ≡ w
      → after (left_gone hand2 ready2 slept2 waits2 stage)
      ≡ parts None ready2 hand2 (slice_set threads t.0 (thread_from (call_state stage) s w false e g)) (trace_after c t buf effect effect trace)
  gone_now hand2 ready2 slept2 waits2 stage s w same_s same_w is_s is_w =
      (λ i. cpu_local_of (own_at None hand2 ready2 ended None slept2 waits2 (slice_set call_states t.0 (call_state stage))) (guests_by call_site None i)
      (trace_after c t buf (is_effect i) (get_or-set_same call_states t.0 (call_state stage) no_call in_call_states i).effect trace))
      ∙ thread_gone runner None None hand2 ready2 slept2 waits2 (call_state stage) g (trace_after c t buf effect effect trace) s w same_s same_w is_s is_w

  -- The plan of a section whose caller neither sleeps nor waits.

  abbrev pub fresh : Stage → CvCall BufferEdit → BufferPlan Reply
  fresh stage s = raised (left_recorded t call (call_state stage) call_states stage) (beneath call_site None None s)

  abbrev pub react : Stage → CvCall BufferEdit → Option TowerAnswer → Left Buffering Reply
  react stage s = react_in (fresh stage s)

  -- the plan of a stage, and what it makes of a result
  abbrev pub plan : Stage → BufferPlan Reply
  plan stage = plan_at setup.homes c t call stage (call_state stage) local

  abbrev pub reacted : Stage → TowerReply → Left Buffering Reply
  reacted stage out = react stage (call_section t call stage) (Some (told.Answer out))

  abbrev pub locked : Left (Sleeping (QLockReply (CvReply BufferReply))) TowerReply → Left (Locking (CvReply BufferReply)) TowerReply
  locked l = left_after t buf slept l.local l.answer

  abbrev pub waiting : Left (Locking (CvReply BufferReply)) TowerReply → Left (Waiting BufferReply) TowerReply
  waiting l = left_waiting t buf waits l.local l.answer

  -- what the part leaves after a section with this outcome, with these threads
  abbrev pub lift : Stage → TowerReply → Threads → Left Buffering Reply
  lift stage outcome own2 = left_recorded t call (call_state stage) call_states stage (waiting (locked (left_done outcome own2)))

  -- with a woken thread whose home CPU is this one, or is not
  abbrev pub waking : Option Tid → Tid → Bool → Threads
  waking current u b = record { current = current; hand = if b then None else Some u; ready = if b then joins (u ∷ []) ready else ready; ended = ended }

  pub by_home : (u : Tid) (F : Bool → Left Buffering Reply) (H : Bool → CpuLocal) → ((b : Bool) → after (F b) ≡ H b)
      → (HandIsKnown setup (F false).local → IsSome (slice_get setup.homes u.0)) → HandIsKnown setup (F (is_cpu c (slice_get setup.homes u.0))).local
      → after (F (is_cpu c (slice_get setup.homes u.0))) ≡ H (same_cpu (home_cpu setup u) c)
  by_home u F H each hand known = grind (arith, same_cpu_sym)

  -- The table's side.

  abbrev pub with_call : Call → Thread
  with_call next = calling setup c ready threads trace t g e within next

  abbrev pub stands : List Tid → Option Tid → Call → List Entry → CpuLocal
  stands ready2 hand next trace2 = parts (Some t) ready2 hand (slice_set threads t.0 (with_call next)) trace2

  abbrev pub putting : Call → Call → List Entry → Thread → CpuLocal
  putting now next trace2 x = put setup c ready threads trace t g e within now next trace2 x

  -- what the table makes of a result
  abbrev pub by_answer : Stage → TowerReply → CpuLocal
  by_answer stage out = after_section setup c (from stage) (answer_view (told.Answer out))

  -- the section of a stage that reported this leaves the call so
  abbrev pub Records : Stage → TowerReply → Call → List Entry → Type 0
  Records stage out next trace2 =
      with_told c (from stage) t (k stage) (k stage).stage (report_in out.out) ≡ putting (k stage) next trace2 (thread_at (from stage) t)

  pub by_table : (stage : Stage) (out : TowerReply) (next : Call) (trace2 : List Entry) → Records stage out next trace2
      → by_answer stage out ≡ settled setup (woken setup c out.woke (slept_if out.slept (stands ready None next trace2)))
  by_table stage out next trace2 is = recorded_is setup c ready threads trace t g e within (k stage) (answer_view (told.Answer out)) next trace2 is

  pub stays_so : (next : Call) (ready2 : List Tid) (trace2 : List Entry) → ((p : CpuLocal) → returned_at setup p t next next.stage ≡ p)
      → settled setup (stands ready2 None next trace2) ≡ stands ready2 None next trace2
  stays_so next ready2 trace2 is = goes_on setup c ready threads trace t g e within next ready2 trace2 is

  pub has_returned : (now : Call) (ready2 : List Tid) (trace2 : List Entry)
      → settled setup (stands ready2 None (record now { stage = Idle }) trace2)
      ≡ parts (Some t) ready2 None (slice_set threads t.0 (done_with setup c ready threads trace t g e within now)) trace2
  has_returned now ready2 trace2 = returns setup c ready threads trace t g e within now ready2 trace2

  -- Both sides after a section.

  -- it woke no thread, and the call continues
  pub runs : (stage : Stage) (out : QLockReply (CvReply BufferReply)) (state2 : CallState) (next : Call) (trace2 : List Entry)
      → Records stage (quiescent_out out) next trace2
      → ((p : CpuLocal) → returned_at setup p t next next.stage ≡ p)
      → parts (Some t) ready None (slice_set threads t.0 (thread_from state2 None None false e g)) (trace_after c t buf effect state2.effect trace) ≡ stands
      ready None next trace2 → after (left_on None ready None state2 None) ≡ by_answer stage (quiescent_out out)
  runs stage out state2 next trace2 is stays same =
      runs_on None ready None state2 None ∙ same ∙ sym (by_table stage (quiescent_out out) next trace2 is ∙ stays_so next ready trace2 stays)

  -- a thread that was woken is ready or in the hand, and the call continues or is over
  abbrev pub woke_to : Stage → Tid → Bool → CpuLocal
  woke_to next u b = settled setup (if b then stands (joins (u ∷ []) ready) None (k next) trace else stands ready (Some u) (k next) trace)

  -- it woke a thread
  pub wakes : (stage next : Stage) (out : QLockReply (CvReply BufferReply)) (u : Tid) → Records stage (waking_out out u) (k next) trace
      → ((b : Bool) → after (lift stage (waking_out out u) (waking (Some t) u b)) ≡ woke_to next u b)
      → HandIsKnown setup (lift stage (waking_out out u) (waking (Some t) u (is_cpu c (slice_get setup.homes u.0)))).local
      → (HandIsKnown setup (lift stage (waking_out out u) (waking (Some t) u false)).local → IsSome (slice_get setup.homes u.0))
      → after (lift stage (waking_out out u) (waking (Some t) u (is_cpu c (slice_get setup.homes u.0)))) ≡ by_answer stage (waking_out out u)
  wakes stage next out u is each known hand =
      by_home u (λ b. lift stage (waking_out out u) (waking (Some t) u b)) (woke_to next u) each hand known
      ∙ sym (by_table stage (waking_out out u) (k next) trace is)

  -- The table makes the same of a result of the layers, whatever effect the call has had.

  abbrev Coupled : Stage → TowerReply → Type 0
  Coupled stage out = HandIsKnown setup (reacted stage out).local → after (reacted stage out) ≡ by_answer stage out

  -- it woke no thread, and the call continues at its next stage
  stands_at : (stage next : Stage) (out : QLockReply (CvReply BufferReply)) → Records stage (quiescent_out out) (k next) trace
      → ((p : CpuLocal) → returned_at setup p t (k next) (k next).stage ≡ p) → thread_from (call_state next) None None false e g ≡ with_call (k next)
      → after (left_on None ready None (call_state next) None) ≡ by_answer stage (quiescent_out out)
  stands_at stage next out is stays same =
      runs stage out (call_state next) (k next) trace is stays
      (λ i. parts (Some t) ready None (slice_set threads t.0 (same i)) (same_trace c t buf effect trace i))

  -- it acquires the lock, and has it or sleeps for it
  sleeps : (stage next : Stage) (owner : Tid) → Records stage (asked_out (Some owner)) (k next) trace
      → thread_from (call_state stage) (Some buf) None false e g ≡ with_call (k next)
      → after (left_gone None ready (slice_set slept t.0 (Some buf)) waits stage) ≡ by_answer stage (asked_out (Some owner))
  sleeps stage next owner is same =
      gone_now None ready (slice_set slept t.0 (Some buf)) waits stage (Some buf) None (λ j other. get_or-set_other slept t.0 j (Some buf) None other)
      (λ j other. refl) (get_or-set_same slept t.0 (Some buf) None in_slept) is_waits
      ∙ (λ i. parts None ready None (slice_set threads t.0 (same i)) (same_trace c t buf effect trace i))
      ∙ sym (by_table stage (asked_out (Some owner)) (k next) trace is)

  ask : (o : Option Tid) → Coupled Acquires (asked_out o)
  ask None known = stands_at Acquires Enters (asked_out None).out refl (λ p. refl) refl
  ask (Some owner) known = sleeps Acquires Enters owner refl refl

  ask_again : (o : Option Tid) → Coupled AcquiresAgain (asked_out o)
  ask_again None known = stands_at AcquiresAgain Tries (asked_out None).out refl (λ p. refl) refl
  ask_again (Some owner) known = sleeps AcquiresAgain Tries owner refl refl

  -- it waits, with the thread that it woke ready or in the hand
  abbrev gone_so : CpuLocal
  gone_so = slept_if true (stands ready None (k AcquiresAgain) trace)

  abbrev woken_to : Tid → Bool → CpuLocal
  woken_to u b = settled setup (if b then record gone_so { ready = joins (u ∷ []) ready } else record gone_so { hand = Some u })

  abbrev pub waited : Side → Option Tid → Left Buffering Reply
  waited side o = react Waits (Release (Wait t side)) (Some (told.Answer (wait_out side o)))

  waits_by : (side : Side) (u : Tid) (b : Bool) → after (lift Waits (wait_out side (Some u)) (waking None u b)) ≡ woken_to u b
  waits_by side u b = grind (arith, gone_now, same_trace, get_or-set_other, get_or-set_same)

  wait_alone : (side : Side) → after (left_gone None ready slept (slice_set waits t.0 (Some buf)) Waits) ≡ by_answer Waits (wait_out side None)
  wait_alone side =
      grind (arith, gone_now, same_trace, get_or-set_other, get_or-set_same) ∙ sym (by_table Waits (wait_out side None) (k AcquiresAgain) trace refl)

  abbrev waking_so : Side → Tid → Bool → Left Buffering Reply
  waking_so side u b = lift Waits (wait_out side (Some u)) (waking None u b)

  wait_waking : (side : Side) (u : Tid) → HandIsKnown setup (waking_so side u (is_cpu c (slice_get setup.homes u.0))).local
      → after (waking_so side u (is_cpu c (slice_get setup.homes u.0))) ≡ by_answer Waits (wait_out side (Some u))
  wait_waking side u known =
      by_home u (waking_so side u) (woken_to u) (waits_by side u) (λ hand. hand u refl) known
      ∙ sym (by_table Waits (wait_out side (Some u)) (k AcquiresAgain) trace refl)

  wait_now : (side : Side) (o : Option Tid) → HandIsKnown setup (waited side o).local → after (waited side o) ≡ by_answer Waits (wait_out side o)
  wait_now Receivers None known = wait_alone Receivers
  wait_now Senders None known = wait_alone Senders
  wait_now Receivers (Some u) known = wait_waking Receivers u known
  wait_now Senders (Some u) known = wait_waking Senders u known

  -- it signals
  signal_by : (v : CvReply BufferReply) (u : Tid) (b : Bool) → after (lift Signals (signal_out v (Some u)) (waking (Some t) u b)) ≡ woke_to SignalsOwn u b
  signal_by v u b = grind (arith, runs_on, stays_so, same_trace)

  own_signal_by : (v : CvReply BufferReply) (u : Tid) (b : Bool) → after (lift SignalsOwn (signal_out v (Some u)) (waking (Some t) u b)) ≡ woke_to Releases u b
  own_signal_by v u b = grind (arith, runs_on, stays_so, same_trace)

  signal : (v : CvReply BufferReply) (o : Option Tid) → Coupled Signals (signal_out v o)
  signal v None known = stands_at Signals SignalsOwn (lock.Did v) refl (λ p. refl) refl
  signal v (Some u) known = wakes Signals SignalsOwn (lock.Did v) u refl (signal_by v u) known (λ hand. hand u refl)

  own_signal : (v : CvReply BufferReply) (o : Option Tid) → Coupled SignalsOwn (signal_out v o)
  own_signal v None known = stands_at SignalsOwn Releases (lock.Did v) refl (λ p. refl) refl
  own_signal v (Some u) known = wakes SignalsOwn Releases (lock.Did v) u refl (own_signal_by v u) known (λ hand. hand u refl)

-- Before the effect.

module _ (call_site : Site) (had : HasHad call_site None) where
  open call_site use {setup, c, t, ready, trace, call, position}

  -- it enters its line, or closes the buffer
  abbrev pub effected_state : Effect → CallState
  effected_state f = record { stage = Signals; call = Some call; position = position; effect = Some f }

  abbrev effected_trace : Effect → List Entry
  effected_trace f = trace ++ entry_of c t (buf call_site None had) f ∷ []

  effects : (stage : Stage) (out : BufferReply) (f : Effect)
      → Records call_site None had stage (did_out out) (call_from call position (Some f) Signals) (effected_trace f)
      → after call_site None had (left_on call_site None had None ready None (effected_state f) None) ≡ by_answer call_site None had stage (did_out out)
  effects stage out f is =
      runs call_site None had stage (lock.Did (cv.Did out)) (effected_state f) (call_from call position (Some f) Signals) (effected_trace f) is (λ p. refl) refl

  first_by : (x : BufferState) → Draws t call x ⊎ Shuts t call x → Coupled call_site None had Enters (did_out (buffer_answer (first_of t call) x))
  first_by x (inl draws) =
      subst (λ o. Coupled call_site None had Enters (did_out o)) (sym draws.is) (λ known. runs call_site None had Enters (lock.Did (cv.Did (Entered draws.pos)))
      (record { stage = Tries; call = Some call; position = draws.pos; effect = None }) (call_from call draws.pos None Tries) trace (grind (arith, draws.lined))
      (λ p. refl) refl)
  first_by x (inr shuts) =
      subst (λ o. Coupled call_site None had Enters (did_out o)) (sym shuts.is)
      (λ known. effects Enters (WasShut shuts.op shuts.pos) (shut_effect shuts.op shuts.pos) (grind (arith, shuts.shuts)))

  -- it tries
  tries_by : (x : BufferState) → IsLined call → (buffer_answer (try_of t call) x ≡ NotYet) ⊎ Tried t call x
      → Coupled call_site None had Tries (did_out (buffer_answer (try_of t call) x))
  tries_by x lined (inl vain) =
      subst (λ o. Coupled call_site None had Tries (did_out o)) (sym vain)
      (λ known. stands_at call_site None had Tries Waits (lock.Did (cv.Did NotYet)) refl (λ p. refl) refl)
  tries_by x lined (inr tried) =
      subst (λ o. Coupled call_site None had Tries (did_out o)) (sym tried.is) (λ known. effects Tries (Done (kind_for (asks_in call) tried.closed) tried.op
      tried.message) (effect_by call tried.closed tried.op tried.message position) (grind (arith, lined, tried.same)))

-- After the effect.

module _ (call_site : Site) (f : Effect) (had : HasHad call_site (Some f)) where
  open call_site use {setup, c, t, ready, trace, call, position}

  -- it releases the lock, and its call returns
  abbrev pub over : CallState
  over = record { stage = Idle; call = None; position = position; effect = Some f }

  returned_so : (ready2 : List Tid) → after call_site (Some f) had (left_on call_site (Some f) had None ready2 None over (Some (reply_of call f)))
      ≡ settled setup (stands call_site (Some f) had ready2 None (k call_site (Some f) had Idle) trace)
  returned_so ready2 =
      runs_on call_site (Some f) had None ready2 None over (Some (reply_of call f))
      ∙ (ap (λ x. parts (Some t) ready2 None
      (slice_set (threads call_site (Some f) had) t.0 (record { guest = x; call = None; ended = e call_site (Some f) had })) trace)
      (grind arith) ∙ sym (has_returned call_site (Some f) had (k call_site (Some f) had Releases) ready2 trace))

  release_by : (u : Tid) (b : Bool)
      → after call_site (Some f) had (lift call_site (Some f) had Releases (left_out (Some u)) (waking call_site (Some f) had (Some t) u b))
      ≡ woke_to call_site (Some f) had Idle u b
  release_by u b = grind (arith, returned_so, runs_on)

  release : (o : Option Tid) → Coupled call_site (Some f) had Releases (left_out o)
  release None known = returned_so ready ∙ sym (by_table call_site (Some f) had Releases (left_out None) (k call_site (Some f) had Idle) trace refl)
  release (Some u) known = wakes call_site (Some f) had Releases Idle (lock.Released cv.Left) u refl (release_by u) known (λ hand. hand u refl)

-- Each stage.

-- if a call's next section is due, its plan is this section's
pub section_planned : (call_site : Site) {effect : Option Effect} (had : HasHad call_site effect) {stage : Stage} → CallStands stage None None None None effect
    → plan call_site effect had stage ≡ fresh call_site effect had stage (call_section call_site.t call_site.call stage)
section_planned call_site had asks = grind arith
section_planned call_site had given = grind arith

-- its thread is as the table has it
pub stands_as : (call_site : Site) (effect : Option Effect) (had : HasHad call_site effect) (stage : Stage) → CallStands stage None None None None effect
    → thread_from (call_state call_site effect had stage) None None false (e call_site effect had) (g call_site effect had)
    ≡ with_call call_site effect had (k call_site effect had stage)
stands_as call_site effect had stage given = grind arith

-- the table requests the section under its own name
named_so : (t : Tid) (call : TowerCall) (position : ℕ) {effect : Option Effect} {stage : Stage} → CallStands stage None None None None effect
    → FitsStage stage (Some call) → section_due t (call_from call position effect stage) stage ≡ name_of (queue.Above (call_section t call stage))
named_so t call position given coupled = grind arith

answers : (call_site : Site) {effect : Option Effect} (had : HasHad call_site effect) {stage : Stage} → CallStands stage None None None None effect
    → FitsStage stage (Some call_site.call) → (x : LockState BufferState)
    → HandIsKnown call_site.setup (reacted call_site effect had stage (lock_answer buffer_rules (call_section call_site.t call_site.call stage) x)).local
    → after call_site effect had (reacted call_site effect had stage (lock_answer buffer_rules (call_section call_site.t call_site.call stage) x))
    ≡ by_answer call_site effect had stage (lock_answer buffer_rules (call_section call_site.t call_site.call stage) x)
answers call_site had asks coupled x known = ask call_site None had x.owner known
answers call_site had enters coupled x known = first_by call_site had x.above (first_answer call_site.t call_site.call x.above) known
answers call_site had tries coupled x known = tries_by call_site had x.above coupled (try_answer call_site.t call_site.call x.above coupled) known
answers call_site had stands_waits coupled x known = grind (arith, wait_now, known)
answers call_site had asks_anew coupled x known = ask_again call_site None had x.owner known
answers call_site had (signals f) coupled x known = signal call_site (Some f) had _ _ known
answers call_site had (signals_own f) coupled x known = own_signal call_site (Some f) had _ _ known
answers call_site had (releases f) coupled x known = release call_site f had (first x.sleepers) known

-- the plan of a section is a line of the table
pub section_line : (call_site : Site) (effect : Option Effect) (had : HasHad call_site effect) (stage : Stage) → CallStands stage None None None None effect
    → FitsStage stage (Some call_site.call)
    → IsLine call_site.setup call_site.c (from call_site effect had stage) (plan call_site effect had stage) (after call_site effect had)
section_line call_site effect had stage given coupled = record {
  lock = Buffer (buf call_site effect had);
  name = queue.Above (call_section call_site.t call_site.call stage);
  react = react call_site effect had stage (call_section call_site.t call_site.call stage);
  is = section_planned call_site had given;
  asks =
      asks_for call_site.setup call_site.c call_site.ready (threads call_site effect had) call_site.trace call_site.t (g call_site effect had)
      (e call_site effect had) (within call_site effect had)
      (k call_site effect had stage) ∙ ap (at_buffer (buf call_site effect had)) (named_so call_site.t call_site.call call_site.position given coupled);
  used = tt;
  stays =
      runs_on call_site effect had None call_site.ready None (call_state call_site effect had stage) None
      ∙ (λ i. parts (Some call_site.t) call_site.ready None
      (slice_set (threads call_site effect had) call_site.t.0 (stands_as call_site effect had stage given i))
      (same_trace call_site.c call_site.t (buf call_site effect had) effect call_site.trace i));
  gives = by_block;
}
  where
    by_block : (x : TowerBlock) → IsKind (Buffer (buf call_site effect had)) x
        → HandIsKnown call_site.setup (react call_site effect had stage (call_section call_site.t call_site.call stage)
        (Some (tower.answer (queue.Above (call_section call_site.t call_site.call stage)) x))).local
        → after call_site effect had (react call_site effect had stage
        (call_section call_site.t call_site.call stage) (Some (tower.answer (queue.Above (call_section call_site.t call_site.call stage)) x)))
        ≡ after_section call_site.setup call_site.c (from call_site effect had stage)
        (answer_view (tower.answer (queue.Above (call_section call_site.t call_site.call stage)) x))
    by_block (block.Above x) kind known = answers call_site had given coupled x known
    by_block (block.Queue pending homes) kind known = absurd kind
