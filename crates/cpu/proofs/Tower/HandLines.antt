-- The plan of a begun call is a row of the table while a thread that its section woke is in the
-- hand: the thread is appended to its home CPU's pending threads.
use Rattle.std.proofs.Common.{◌≡◌, inr, ◌<◌, Bool, true, false, List, length, slice_get, slice_set, Option, Some, None, IsSome, refl, ap, sym, ◌∙◌, subst}
use Rattle.std.proofs.{Common.arith, lemmas.List.get_or-set_same}
use Rattle.{event_log.specs.declared.ids.{LockId.TheVariants.Pending, Tid.Tid}, guest.specs.State.State, thread_blocks.specs.Queues.is_in}
use Rattle.layer_traits.specs.declared.{calls.{Effect.Effect, Reply.Reply}, conditions.CvReply.CvReply, buffer_edits.BufferEdit.BufferEdit}
use Rattle.layer_traits.specs.declared.{buffer_edits.BufferReply.BufferReply, call_states.{CallState.CallState, Stage.{Stage, TheVariants.{Idle, Signals}}}}
use Rattle.layer_traits.specs.{declared.call_states.Stage.TheVariants.{SignalsOwn, Releases}, Blocks.BufferProtocol.buffer_rules, Layers.BufferLaw.BufferPlan}
use Rattle.layer_traits.specs.Layers.BufferLaw.{Buffering, buffer_of, going, left_recorded, plan_at, reply_of, call_state_of, no_call, section_at}
use Rattle.layer_traits.specs.{Layers.{Conditions.CvCall, CvLaw.cv_plan, QLocking.lock_moves}, Polling.Plans.{Left, raised}, Threads.Passes.queue_for}
use Rattle.cpu.specs.{Table.{Setups.{Thread, CpuLocal}, Choice.{settled, at_pending, returned_at}, Blocks.Pend}, Tower.{Views.TowerReply, Privates.call_from}}
use Rattle.cpu.specs.Tower.{Privates.{state_at, cpu_local_after, cpu_local_of, thread_from, trace_after}, Composed.{woken_outcome, CallStands, has_signalled}}
use Rattle.cpu.{specs.Tower.Composed.{has_signalled_own, has_released}, proofs.Tower.{Callers.{Site, call_state_at}, ChangedThread.runner_goes}}
use Rattle.cpu.proofs.Tower.{ChangedThread.{numbered_long, own_at, part_at, parts, threads_at}, SettledAnswers.{calling, goes_on, returns}}
use Rattle.cpu.proofs.Tower.{SectionLines.{react_in, guest_by, guests_by, beneath}, Chains.{LineOf, cpu_local_here, put_same, begun_plan, had_at}}
use Rattle.layer_traits.specs.declared.locked.QLockReply.TheVariants as lock
use Rattle.layer_traits.specs.declared.conditions.CvReply.TheVariants as cv
use Rattle.layer_traits.specs.declared.queue_edits.QueueEdit.TheVariants as queue
use Rattle.layer_traits.specs.declared.queue_edits.QueueAnswer.TheVariants as told
pub use Rattle.layer_traits.proofs.PlaceLemmas.{home_there}

module _ (call_site : Site) (u : Tid) (f : Effect) (known : IsSome (slice_get call_site.setup.homes u.0)) where
  open call_site use {
    setup,
    c,
    runner,
    t,
    ready,
    ended,
    slept,
    waits,
    call_states,
    guests,
    trace,
    call,
    position,
    in_guests,
    in_call_states,
    is_slept,
    is_waits,
  }

  abbrev pub own_with : TowerReply → Buffering
  own_with outcome = part_at runner (Some u) (Some outcome)

  abbrev pub here : Stage → CallState
  here stage = call_state_at call_site.caller stage (Some f)

  abbrev g : State
  g = state_at guests t

  abbrev e : Bool
  e = is_in t ended

  abbrev threads : TowerReply → List Thread
  threads outcome = threads_at (own_with outcome) guests

  long : (outcome : TowerReply) → t.0 < length (threads outcome)
  long outcome = subst (λ n. t.0 < n) (sym (numbered_long _ 0 guests)) in_guests

  abbrev in_call : TowerReply → Stage → Thread
  in_call outcome next = calling setup c ready (threads outcome) trace t g e (long outcome) (call_from call position (Some f) next)

  abbrev pub sends : TowerReply → Stage → CvCall BufferEdit → BufferPlan Reply
  sends outcome stage s = raised (left_recorded t call (here stage) call_states stage) (beneath call_site (Some u) (Some outcome) s)

  abbrev after : TowerReply → Left Buffering Reply → CpuLocal
  after outcome left = cpu_local_after setup c t call (own_with outcome) guests trace left

  -- a section that woke thread u: its plan sends u, and then the call is so
  pub record Sends (out : TowerReply) (stage : Stage) (state2 : CallState) (answer : Option Reply) : Type 0 where
    pub stands : CallStands stage (Some u) (Some out) None None (Some f)
    pub plan : plan_at setup.homes c t call stage (here stage) (own_with out) ≡ sends out stage (section_at t call stage)
    pub still : react_in (sends out stage (section_at t call stage)) None
        ≡ record { local = own_at (Some t) (Some u) ready ended (Some out) slept waits (slice_set call_states t.0 (here stage)); answer = None }
    pub done : react_in (sends out stage (section_at t call stage)) (Some told.Done)
        ≡ record { local = own_at (Some t) None ready ended None slept waits (slice_set call_states t.0 state2); answer = answer }

  beneath_at : (out : TowerReply) (stage : Stage) → (lock_moves buffer_rules).caller (section_at t call stage) ≡ t
      → raised (left_recorded t call (here stage) call_states stage)
      (cv_plan (lock_moves buffer_rules) setup.homes c (buffer_of call) (section_at t call stage) (own_with out).cv) ≡ sends out stage (section_at t call stage)
  beneath_at out stage mine = grind arith

  pub sends_signalled : (v : CvReply BufferReply) → Sends (woken_outcome (lock.Did v) u) Signals (here SignalsOwn) None
  sends_signalled v = record { stands = has_signalled u v f; plan = beneath_at (woken_outcome (lock.Did v) u) Signals refl; still = refl; done = refl }

  pub sends_signalled_own : (v : CvReply BufferReply) → Sends (woken_outcome (lock.Did v) u) SignalsOwn (here Releases) None
  sends_signalled_own v =
      record { stands = has_signalled_own u v f; plan = beneath_at (woken_outcome (lock.Did v) u) SignalsOwn refl; still = refl; done = refl }

  pub sends_released : Sends (woken_outcome (lock.Released cv.Left) u) Releases (record { stage = Idle; call = None; position = position; effect = Some f })
      (Some (reply_of call f))
  sends_released = record { stands = has_released u f; plan = beneath_at (woken_outcome (lock.Released cv.Left) u) Releases refl; still = refl; done = refl }

  module _ (out : TowerReply) (stage : Stage) (is : call_state_of call_states t ≡ here stage) where
    -- the poll leaves the hand empty, and the call continues or returns
    sent : (going (call_state_of call_states t) call).effect ≡ Some f → (state2 : CallState) (answer : Option Reply)
        → after out (record { local = own_at (Some t) None ready ended None slept waits (slice_set call_states t.0 state2); answer = answer })
        ≡ parts (Some t) ready None (slice_set (threads out) t.0 (thread_from state2 None None false e (guest_by call_site answer)))
        (trace_after c t (buffer_of call) (Some f) state2.effect trace)
    sent had state2 answer =
        (λ i. cpu_local_of (own_at (Some t) None ready ended None slept waits (slice_set call_states t.0 state2)) (guests_by call_site answer i)
        (trace_after c t (buffer_of call) (had i) (get_or-set_same call_states t.0 state2 no_call in_call_states i).effect trace))
        ∙ runner_goes runner (Some u) (Some out) None ready None state2 (guest_by call_site answer) trace None None is_slept is_waits

    -- the thread as the table has it: its section is done
    threads_are : (next : Stage) → thread_from (here stage) None None true e g ≡ in_call out next
        → settled setup (parts (Some t) ready None (threads out) trace)
        ≡ settled setup (parts (Some t) ready None (slice_set (threads out) t.0 (in_call out next)) trace)
    threads_are next same =
        ap (λ p. settled setup (parts (Some t) ready None p.threads trace))
        (cpu_local_here runner (Some u) (Some out) trace (here stage) None None is is_slept is_waits)
        ∙ ap (λ x. settled setup (parts (Some t) ready None (slice_set (threads out) t.0 x) trace)) same

    line : (state2 : CallState) (answer : Option Reply) → Sends out stage state2 answer
        → parts (Some t) ready None (slice_set (threads out) t.0 (thread_from state2 None None false e (guest_by call_site answer)))
        (trace_after c t (buffer_of call) (Some f) state2.effect trace) ≡ settled setup (parts (Some t) ready None (threads out) trace)
        → LineOf setup c t call (own_with out) guests trace
    line state2 answer sends_u gives = record {
      lock = Pending (queue_for setup.homes c u);
      name = queue.Push u;
      react = react_in (sends out stage (section_at t call stage));
      is = begun_plan setup c t call (own_with out) sends_u.stands is ∙ sends_u.plan;
      asks = ap (λ d. at_pending d (Pend u)) (sym (grind (arith, known)));
      used = inr (u, home_there c (slice_get setup.homes u.0) known);
      stays = grind (arith, put_same, sends_u.still);
      gives = λ x kind hand. ap (after out) sends_u.done ∙ (sent (had_at call_site stage (Some f) sends_u.stands is) state2 answer ∙ gives);
    }

    -- the call continues
    signalled_line : (next : Stage) → Sends out stage (here next) None → thread_from (here stage) None None true e g ≡ in_call out next
        → thread_from (here next) None None false e g ≡ in_call out next
        → ((p : CpuLocal) → returned_at setup p t (call_from call position (Some f) next) next ≡ p) → LineOf setup c t call (own_with out) guests trace
    signalled_line next sends_u now then stays =
        line (here next) None sends_u
        (ap (λ x. parts (Some t) ready None (slice_set (threads out) t.0 x) trace) then
        ∙ sym (threads_are next now ∙ goes_on setup c ready (threads out) trace t g e (long out) (call_from call position (Some f) next) ready trace stays))

  pub has_signalled_line : (v : CvReply BufferReply) → call_state_of call_states t ≡ here Signals
      → LineOf setup c t call (own_with (woken_outcome (lock.Did v) u)) guests trace
  has_signalled_line v is = signalled_line _ Signals is SignalsOwn (sends_signalled v) refl refl (λ p. refl)

  pub has_signalled_own_line : (v : CvReply BufferReply) → call_state_of call_states t ≡ here SignalsOwn
      → LineOf setup c t call (own_with (woken_outcome (lock.Did v) u)) guests trace
  has_signalled_own_line v is = signalled_line _ SignalsOwn is Releases (sends_signalled_own v) refl refl (λ p. refl)

  pub has_released_line : call_state_of call_states t ≡ here Releases → LineOf setup c t call (own_with (woken_outcome (lock.Released cv.Left) u)) guests trace
  has_released_line is =
      let out : TowerReply = woken_outcome (lock.Released cv.Left) u in
      line out Releases is _ _ sends_released
      (ap (λ x. parts (Some t) ready None (slice_set (threads out) t.0 (record { guest = x; call = None; ended = e })) trace)
      (grind arith) ∙ sym (threads_are out Releases is Idle refl
      ∙ returns setup c ready (threads out) trace t g e (long out) (call_from call position (Some f) Releases) ready trace))
