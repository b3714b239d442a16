-- The states of all threads in a part stay allowed under every poll of a call.
use Rattle.std.proofs.Common.{◌≡◌, inr, ◌<◌, List, [], length, slice_get, slice_set, Option, Some, None, IsSome, option_map, refl, ap, sym, ◌∙◌, subst, arith}
use Rattle.std.proofs.lemmas.{List.{get_or-set_other, length-set}, Bool.ne_eqb}
use Rattle.layer_traits.specs.{Views.OwnParts.threads_in, declared.{calls.{Call.Call as TowerCall, Effect.Effect, Reply.Reply}, call_states.Stage.Stage}}
use Rattle.layer_traits.specs.{declared.call_states.CallState.CallState, Layers.{QLockLaw.slept_for, BufferLaw.{Buffering, plan_at, call_state_of, fifo_plan}}}
use Rattle.layer_traits.specs.{Layers.BufferLaw.{going_at, section_at}, Polling.Plans.{Left, Plan, Acting, Follows, at_give}}
use Rattle.{layer_traits.specs.Threads.Passes.queue_for, event_log.specs.declared.ids.{BufId.BufId, CpuId.CpuId, LockId.{TheVariants.Pending, LockId}, Tid.Tid}}
use Rattle.{event_log.specs.{Actions.{Action, Phase, phase}, Sections.{block_after, sections_in}}, guest.specs.State.State, cpu.specs.Table.Setups.SystemConfig}
use Rattle.cpu.specs.Tower.{Views.{TowerAnswer, TowerBlock, TowerName, TowerReply, tower}, Positions.{IsPart, MayStand, inside, outside}, Composed.FitsStage}
use Rattle.cpu.specs.Tower.Composed.{IsLined, HandIsKnown, CallStands, asks, was_handed, enters, tries, was_woken, asks_anew}
use Rattle.cpu.specs.Tower.Composed.{was_handed_again, signals_own, releases, has_signalled, has_signalled_own, has_released, IsGoing, OpensAs}
use Rattle.cpu.proofs.Tower.{Callers.{Caller, HasRoom, Site, awake, caller_in, call_state_at}, ChangedThread.{own_at, part_at}, SectionLines.{HasHad, local}}
use Rattle.cpu.proofs.Tower.{SectionLines.{react_in, plan}, KeptBySections.{PlanPreserves, Rest, runs_kept, rest_set, section_keeps}, Chains.handed_plan}
use Rattle.cpu.proofs.Tower.Chains.{handed_again_plan, woken_plan, had_at, handed_site, woken_site, now_call_state, handed_own, woken_own, begun_plan}
use Rattle.cpu.proofs.Tower.{HandLines.{home_there, sends, Sends, sends_signalled, sends_signalled_own, sends_released}, Polls.{IsKindIn, kind_after}}
use Rattle.layer_traits.specs.declared.queue_edits.QueueEdit.TheVariants as queue
use Rattle.layer_traits.specs.declared.call_states.Stage.TheVariants as at

-- the plan of a begun call whose caller neither slept nor waited
site_keeps : (call_site : Site) → Rest call_site.t call_site.slept call_site.waits call_site.call_states → {stage : Stage} {effect : Option Effect}
    → CallStands stage None None None None effect → FitsStage stage (Some call_site.call)
    → call_state_of call_site.call_states call_site.t ≡ call_state_at call_site.caller stage effect
    → PlanPreserves call_site.setup call_site.c (fifo_plan call_site.setup.homes call_site.c call_site.t call_site.call (part_at call_site.runner None None))
site_keeps call_site others {stage} {effect} given coupled is =
    rw (begun_plan call_site.setup call_site.c call_site.t call_site.call (part_at call_site.runner None None) given is)
    (section_keeps call_site effect (had_at call_site stage effect given is) others stage given coupled)

module _ (caller : Caller) (others : Rest caller.t caller.slept caller.waits caller.call_states) where
  open caller use {setup, c, t, ready, ended, slept, waits as waiting, call_states, call, position, in_call_states, in_slept, in_waits}

  abbrev here : Stage → Option Effect → CallState
  here stage effect = call_state_at caller stage effect

  abbrev pieces : Option Tid → Option TowerReply → List (Option BufId) → List (Option BufId) → List CallState → Buffering
  pieces hand deferred slept2 waits2 states2 = own_at (Some t) hand ready ended deferred slept2 waits2 states2

  abbrev Keeps : Buffering → Type 0
  Keeps o = PlanPreserves setup c (fifo_plan setup.homes c t call o)

  -- the thread was handed the lock, or was woken, and continues with the next stage
  handed_keeps : (next : Stage) → CallStands next None None None None None → FitsStage next (Some call) → slept_for waiting t ≡ None
      → fifo_plan setup.homes c t call (pieces None None slept waiting call_states) ≡ fifo_plan setup.homes c t call (handed_own caller next)
      → Keeps (pieces None None slept waiting call_states)
  handed_keeps next given coupled w goes =
      rw goes (site_keeps (handed_site caller next w) (rest_set t slept waiting (slice_set slept t.0 None) waiting call_states (here next None) others
      (λ j other. get_or-set_other slept t.0 j None None other) (λ j other. refl) (length-set slept t.0 None) refl) given coupled (now_call_state caller next))

  woken_keeps : IsLined call → slept_for slept t ≡ None
      → fifo_plan setup.homes c t call (pieces None None slept waiting call_states) ≡ fifo_plan setup.homes c t call (woken_own caller at.AcquiresAgain)
      → Keeps (pieces None None slept waiting call_states)
  woken_keeps lined s goes =
      rw goes (site_keeps (woken_site caller at.AcquiresAgain s) (rest_set t slept waiting slept (slice_set waiting t.0 None) call_states
      (here at.AcquiresAgain None) others (λ j other. refl) (λ j other. get_or-set_other waiting t.0 j None None other) refl (length-set waiting t.0 None))
      asks_anew lined (now_call_state caller at.AcquiresAgain))

  -- a thread in the hand is sent
  module _ (u : Tid) (f : Effect) (s : slept_for slept t ≡ None) (w : slept_for waiting t ≡ None) (known : IsSome (slice_get setup.homes u.0)) where
    send_keeps : (out : TowerReply) (stage : Stage) (next : CallState) (answer : Option Reply) → Sends (awake caller s w) u f known out stage next answer
        → FitsStage stage (Some call) → call_state_of call_states t ≡ here stage (Some f) → MayStand next.stage None None None None next.effect
        → FitsStage next.stage next.call → Keeps (pieces (Some u) (Some out) slept waiting call_states)
    send_keeps out stage next answer sent fit is may_next fit_next =
        let had : HasHad (awake caller s w) (Some f) = had_at (awake caller s w) stage (Some f) sent.stands is in
        rw (begun_plan setup c t call (pieces (Some u) (Some out) slept waiting call_states) sent.stands is ∙ sent.plan) (record {
          lock = Pending (queue_for setup.homes c u);
          name = queue.Push u;
          react = react_in (sends (awake caller s w) u f known out stage (section_at t call stage));
          used = inr (u, home_there c (slice_get setup.homes u.0) known);
          is = refl;
          stays = subst (λ l. IsPart l.local) (sym sent.still) (runs_kept (awake caller s w) (Some f) had others (Some u) ready (Some out) (here stage (Some f))
              (inside stage (Some u) (Some out) None None (Some f) sent.stands) fit);
          gives =
              λ x kind. subst (λ l. IsPart l.local) (sym sent.done) (runs_kept (awake caller s w) (Some f) had others None ready None next may_next fit_next);
        })

  pub by_stands : {stage : Stage} {hand : Option Tid} {deferred : Option TowerReply} {s w : Option BufId} {effect : Option Effect}
      → CallStands stage hand deferred s w effect → FitsStage stage (Some call) → call_state_of call_states t ≡ here stage effect → slept_for slept t ≡ s
      → slept_for waiting t ≡ w → ((u : Tid) → hand ≡ Some u → IsSome (slice_get setup.homes u.0)) → Keeps (pieces hand deferred slept waiting call_states)
  by_stands (was_handed b) coupled is is_s is_w known = handed_keeps at.Enters enters tt is_w (handed_plan caller b is is_s is_w)
  by_stands (was_handed_again b) coupled is is_s is_w known = handed_keeps at.Tries tries coupled is_w (handed_again_plan caller b is is_s is_w)
  by_stands (was_woken b) coupled is is_s is_w known = woken_keeps coupled is_s (woken_plan caller b is is_s is_w)
  by_stands (has_signalled u v f) coupled is is_s is_w known =
      send_keeps u f is_s is_w (known u refl) _ at.Signals _ _ (sends_signalled (awake caller is_s is_w) u f (known u refl) v) tt is
      (inside at.SignalsOwn None None None None (Some f) (signals_own f)) tt
  by_stands (has_signalled_own u v f) coupled is is_s is_w known =
      send_keeps u f is_s is_w (known u refl) _ at.SignalsOwn _ _ (sends_signalled_own (awake caller is_s is_w) u f (known u refl) v) tt is
      (inside at.Releases None None None None (Some f) (releases f)) tt
  by_stands (has_released u f) coupled is is_s is_w known =
      send_keeps u f is_s is_w (known u refl) _ at.Releases _ _ (sends_released (awake caller is_s is_w) u f (known u refl)) tt is (outside (Some f)) tt
  by_stands given coupled is is_s is_w known = site_keeps (awake caller is_s is_w) others given coupled is

-- the rest of a part whose thread t runs
pub rest_of : (o : Buffering) (t : Tid) → (threads_in o).current ≡ Some t → IsPart o → Rest t o.cv.lock.slept o.cv.waits o.call_states
rest_of o t runs part = grind (arith, part, runs, ne_eqb)

pub plans_keep : (setup : SystemConfig) (c : CpuId) (local : Buffering) (guests : List State) (t : Tid) (call : TowerCall) → IsGoing local guests t call
    → HandIsKnown setup local → IsPart local → PlanPreserves setup c (fifo_plan setup.homes c t call local)
plans_keep setup c local guests t call going_on known part =
    let call_state_now : CallState = call_state_of local.call_states t in
    let room : HasRoom local guests t = assumption in
    let keep = by_stands (caller_in setup c local guests t room [] call call_state_now.position) (rest_of local t going_on.current part) going_on.stands
    (subst (FitsStage call_state_now.stage) going_on.begun going_on.coupled)
    (λ i. record { stage = call_state_now.stage; call = going_on.begun i; position = call_state_now.position; effect = call_state_now.effect }) refl refl
    known in
    rw going_on.current keep

-- thread t runs and is in no call
pub record IsFree (local : Buffering) (guests : List State) (t : Tid) : Type 0 where
  pub current : (threads_in local).current ≡ Some t
  pub hand : (threads_in local).hand ≡ None
  pub deferred : local.cv.lock.sleep.deferred ≡ None
  pub slept : slept_for local.cv.lock.slept t ≡ None
  pub waits : slept_for local.cv.waits t ≡ None
  pub at_idle : (call_state_of local.call_states t).stage ≡ at.Idle
  pub in_guests : t.0 < length guests
  pub in_call_states : t.0 < length local.call_states
  pub in_slept : t.0 < length local.cv.lock.slept
  pub in_waits : t.0 < length local.cv.waits

pub begins_keep : (setup : SystemConfig) (c : CpuId) (local : Buffering) (guests : List State) (t : Tid) (call : TowerCall) → IsFree local guests t
    → IsPart local
    → PlanPreserves setup c (fifo_plan setup.homes c t call local)
begins_keep setup c local guests t call free part =
    let pieces : Buffering = own_at (Some t) None (threads_in local).ready (threads_in local).ended None local.cv.lock.slept local.cv.waits local.call_states in
    let room : HasRoom local guests t = assumption in
    let call_site : Site = awake (caller_in setup c local guests t room [] call 0) free.slept free.waits in
    let had : HasHad call_site None = ap (λ x. (going_at x (call_state_of local.call_states t) call).effect) free.at_idle in
    let begins : fifo_plan setup.homes c t call pieces ≡ plan call_site None had at.Acquires
    = ap (λ x. plan_at setup.homes c t call (going_at x (call_state_of local.call_states t) call).stage (going_at x
    (call_state_of local.call_states t) call) pieces) free.at_idle in
    let keep = subst (λ x. PlanPreserves setup c x) (sym begins) (section_keeps call_site None had (rest_of local t free.current part) at.Acquires asks tt) in
    subst (λ x. x) (λ i. PlanPreserves setup c (fifo_plan setup.homes c t call (own_at (sym free.current i) (sym free.hand i) (threads_in local).ready
    (threads_in local).ended (sym free.deferred i) local.cv.lock.slept local.cv.waits local.call_states))) keep

-- a poll that followed such a plan
pub preserved_by : {A : Type 0} (ActsFor : CpuId → Type 0) (setup : SystemConfig) (opening : LockId → Option TowerBlock) (c : CpuId)
    (p : Plan TowerName TowerAnswer Buffering A) (old new : List (Action TowerName)) (left : Left Buffering A) → OpensAs setup c opening
    → PlanPreserves setup c p → Follows ActsFor tower opening c p old new left → IsPart left.local
preserved_by {A = A} ActsFor setup opening c p old new left opens keep follows =
    by_reply (phase c planned.past) (block_after tower.edited opening keep.lock (sections_in planned.past))
    (kind_after opening keep.lock (grind (arith, opens keep.lock keep.used)) (sections_in planned.past)) planned.moves
  where
    planned : Acting ActsFor tower opening c keep.lock keep.name keep.react old new left
    planned = subst (λ x. Follows ActsFor tower opening c x old new left) keep.is follows

    by_reply : (x : Phase) (o : Option TowerBlock) → IsKindIn keep.lock o → left ≡ keep.react (at_give x (option_map (tower.answer keep.name) o))
        → IsPart left.local
    by_reply x o kind is = grind arith
