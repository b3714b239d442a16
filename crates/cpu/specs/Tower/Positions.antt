-- The states of all threads in a CPU's part between its polls.
use Rattle.std.specs.Prelude.{◌≡◌, false, Option, Some, None, length}
use Rattle.layer_traits.specs.{Views.OwnParts.threads_in, declared.calls.Effect.Effect}
use Rattle.layer_traits.specs.declared.call_states.Stage.{Stage, TheVariants.Idle}
use Rattle.layer_traits.specs.Layers.{QLockLaw.slept_for, BufferLaw.{Buffering, call_state_of}}
use Rattle.{layer_traits.specs.Threads.Places.is_thread, event_log.specs.declared.ids.BufId.BufId}
use Rattle.event_log.specs.declared.ids.{Tid.Tid, TheConstants.THREADS}
use Rattle.cpu.specs.Tower.{Views.TowerReply, Composed.{CallStands, FitsStage}}

-- a thread is in no call, and then neither sleeps nor waits, or it is in a state that a begun call
-- may have
pub data MayStand : Stage → (hand : Option Tid) → (deferred : Option TowerReply)
    → (slept waits : Option BufId) → (effect : Option Effect) → Type 0 where
  outside : (effect : Option Effect) → MayStand Idle None None None None effect
  inside : (stage : Stage) (hand : Option Tid) (deferred : Option TowerReply)
      (slept waits : Option BufId) (effect : Option Effect)
      → CallStands stage hand deferred slept waits effect
      → MayStand stage hand deferred slept waits effect

-- The running thread is in such a state with the hand and the kept result, each other thread
-- without one. While no thread runs, no result is kept. Each thread's call agrees with its stage.
pub record IsPart (local : Buffering) : Type 0 where
  pub mine : (t : Tid) → (threads_in local).current ≡ Some t
      → MayStand (call_state_of local.call_states t).stage (threads_in local).hand
      local.cv.lock.sleep.deferred (slept_for local.cv.lock.slept t)
      (slept_for local.cv.waits t) (call_state_of local.call_states t).effect
  pub other : (t : Tid) → is_thread t (threads_in local).current ≡ false
      → MayStand (call_state_of local.call_states t).stage None None
      (slept_for local.cv.lock.slept t)
      (slept_for local.cv.waits t)
      (call_state_of local.call_states t).effect
  pub idle : (threads_in local).current ≡ None → local.cv.lock.sleep.deferred ≡ None
  pub coupled : (t : Tid) → FitsStage (call_state_of local.call_states t).stage
      (call_state_of local.call_states t).call
  pub call_states : length local.call_states ≡ THREADS
  pub slept : length local.cv.lock.slept ≡ THREADS
  pub waits : length local.cv.waits ≡ THREADS
