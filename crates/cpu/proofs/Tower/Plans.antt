-- The plan of every poll of a begun call is a line of the table.
use Rattle.std.proofs.Common.{◌≡◌, slice_get, Option, Some, IsSome, refl, subst}
use Rattle.{event_log.specs.declared.ids.{BufId.BufId, Tid.Tid}, layer_traits.specs.declared.{calls.Effect.Effect, call_states.Stage.Stage}}
use Rattle.layer_traits.specs.{declared.call_states.CallState.CallState, Layers.{QLockLaw.slept_for, BufferLaw.call_state_of}}
use Rattle.cpu.specs.Tower.{Views.TowerReply, Composed.{FitsStage, PlansAreLines, CallStands, was_handed, waits, was_woken, was_handed_again, has_signalled}}
use Rattle.cpu.{specs.Tower.Composed.{has_signalled_own, has_released}, proofs.Tower.Callers.{Caller, HasRoom, awake, caller_in, call_state_at}}
use Rattle.cpu.proofs.Tower.{ChangedThread.own_at, HandLines.{has_signalled_line, has_signalled_own_line, has_released_line}, Chains.{LineOf, site_line}}
use Rattle.cpu.proofs.Tower.Chains.{handed_line, handed_again_line, woken_line}

module _ (caller : Caller) where
  open caller use {setup, c, t, ready, ended, slept, waits as waiting, call_states, guests, trace, call}

  by_stands : {stage : Stage} {hand : Option Tid} {deferred : Option TowerReply} {s w : Option BufId} {effect : Option Effect}
      → CallStands stage hand deferred s w effect → FitsStage stage (Some call) → call_state_of call_states t ≡ call_state_at caller stage effect
      → slept_for slept t ≡ s → slept_for waiting t ≡ w → ((u : Tid) → hand ≡ Some u → IsSome (slice_get setup.homes u.0))
      → LineOf setup c t call (own_at (Some t) hand ready ended deferred slept waiting call_states) guests trace
  by_stands (was_handed b) coupled is is_s is_w known = handed_line caller b is is_s is_w
  by_stands (was_handed_again b) coupled is is_s is_w known = handed_again_line caller b coupled is is_s is_w
  by_stands (was_woken b) coupled is is_s is_w known = woken_line caller b coupled is is_s is_w
  by_stands (has_signalled u v f) coupled is is_s is_w known = has_signalled_line (awake caller is_s is_w) u f (known u refl) v is
  by_stands (has_signalled_own u v f) coupled is is_s is_w known = has_signalled_own_line (awake caller is_s is_w) u f (known u refl) v is
  by_stands (has_released u f) coupled is is_s is_w known = has_released_line (awake caller is_s is_w) u f (known u refl) is
  by_stands given coupled is is_s is_w known = site_line (awake caller is_s is_w) _ _ given coupled is

pub plans_are_lines : PlansAreLines
plans_are_lines setup c local guests trace t call going known =
    let call_state_now : CallState = call_state_of local.call_states t in
    let room : HasRoom local guests t = assumption in
    let line = by_stands (caller_in setup c local guests t room trace call call_state_now.position) going.stands
    (subst (FitsStage call_state_now.stage) going.begun going.coupled)
    (λ i. record { stage = call_state_now.stage; call = going.begun i; position = call_state_now.position; effect = call_state_now.effect }) refl refl known in
    rw going.current line
