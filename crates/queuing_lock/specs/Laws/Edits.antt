-- What a section of the lower layer does to a block is what the call does to the lock that the
-- block is.
use Rattle.std.proofs.Common.{◌≡◌, false, List, Option, Some, None, refl, arith}
use Rattle.event_log.specs.declared.ids.Tid.{Tid}
use Rattle.layer_traits.specs.declared.locked.QLockCall.{QLockCall, TheVariants.{Acquire, Inside}}
use Rattle.layer_traits.specs.declared.locked.QLockCall.TheVariants.{Release}
use Rattle.layer_traits.specs.declared.locked.{QLockReply.TheVariants.Did, Side.Side}
use Rattle.layer_traits.specs.declared.locked.WakeWaiter.{WakeWaiter}
use Rattle.layer_traits.specs.declared.moves.WaitList.TheVariants.{Sleepers, Receivers, Senders}
use Rattle.layer_traits.specs.Layers.QLocking.{LockRules, wait_list_for, lock_answer, lock_edited}
use Rattle.layer_traits.specs.Layers.QLocking.{signalled, list_with_waiter, waiting_without}
use Rattle.layer_traits.specs.Layers.Sleeping.{SleepState, left, wait_list_joined, sleep_answer}
use Rattle.layer_traits.specs.Layers.Sleeping.{sleep_edited, woken_by}
use Rattle.queuing_lock.specs.declared.edits.{QLockBlock.QLockBlock, QLockSection.QLockSection}
use Rattle.queuing_lock.specs.Nested.{busy_rules, lock_call, leaving, nested_lock_of}
use Rattle.thread_blocks.specs.Queues.{first, rest}
use Rattle.layer_traits.specs.declared.locked.Side.TheVariants as side
use Rattle.layer_traits.specs.declared.locked.WakeWaiter.TheVariants as signal

module _ {F R B O : Type 0} (protocol : LockRules F R B O) where
  -- a section leaves the lock that the call leaves
  pub edits : (d : QLockSection F R) (a : SleepState (QLockBlock B))
      → nested_lock_of (sleep_edited (busy_rules protocol) d a)
      ≡ lock_edited protocol (lock_call d) (nested_lock_of a)
  edits d a = grind arith

  -- and returns what the call returns
  pub answers : (d : QLockSection F R) (a : SleepState (QLockBlock B))
      → sleep_answer (busy_rules protocol) d a
      ≡ lock_answer protocol (lock_call d) (nested_lock_of a)
  answers d a = grind arith
