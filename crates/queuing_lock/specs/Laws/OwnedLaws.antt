-- What the lower layer states of its blocks, the layer states of their locks.
use Rattle.std.proofs.Common.{List, Option, Some, option_map, ap, sym}
use Rattle.event_log.specs.declared.ids.{BufId.BufId, CpuId.CpuId, LockId.LockId}
use Rattle.event_log.specs.{declared.ids.{LockId.TheVariants.Buffer, Tid.Tid}, Sections.block_after}
use Rattle.layer_traits.specs.declared.queue_edits.QueueBlock.{QueueBlock}
use Rattle.layer_traits.specs.{declared.queues.QueueEvent.QueueEvent, Layers.QLocking.LockRules}
use Rattle.layer_traits.specs.Layers.{QLocking.lock_after, Queues.{buffer_sections, moves_in}}
use Rattle.layer_traits.specs.{Layers.Sleeping.{SleepState, sleep_edited}, Views.Owned.IsObserved}
use Rattle.layer_traits.specs.{Views.Renaming.{renamed_events, viewed}, Threads.Places.pending_by}
use Rattle.layer_traits.{specs.Blocks.QueueBlocks.inner, proofs.OwnedLemmas.{PartsOn, same_shown}}
use Rattle.layer_traits.proofs.OwnedLemmas.{shown_on, viewed_shown}
use Rattle.queuing_lock.specs.declared.edits.{QLockBlock.QLockBlock, QLockSection.QLockSection}
use Rattle.queuing_lock.specs.Laws.NestedLaws.{beneath_the_lock, at_the_lock, lock_is, same_moves}
use Rattle.queuing_lock.specs.Nested.{busy_rules, lock_call, nested_lock_of}

module _ {P Q F R B O : Type 0} (protocol : LockRules F R B O)
    (opening : LockId → Option (QueueBlock (SleepState (QLockBlock B))))
    (past : List (QueueEvent (QLockSection F R))) (parts : PartsOn P Q) where
  open parts use {below, FitsP, FitsQ, cpu_below, MayHold}

  -- what is stated of a block with its waiting lists is stated of its lock
  pub locks_shown : (b : BufId) (tells : P → Option (SleepState (QLockBlock B)))
      (home : Option (SleepState (QLockBlock B)))
      → IsObserved FitsP cpu_below MayHold tells home
      (block_after (sleep_edited (busy_rules protocol)) (inner opening) (Buffer b)
      (buffer_sections past))
      → IsObserved FitsQ (λ q. cpu_below (below q)) MayHold
      (λ q. option_map nested_lock_of (tells (below q))) (option_map nested_lock_of home)
      (lock_after protocol (inner (viewed nested_lock_of opening)) (Buffer b)
      (buffer_sections (renamed_events lock_call past)))
  locks_shown b tells home shown =
      let truth =
      block_after (sleep_edited (busy_rules protocol)) (inner opening) (Buffer b)
      (buffer_sections past) in
      viewed_shown nested_lock_of FitsQ _ MayHold (λ q. tells (below q)) home truth _
      (lock_is protocol opening (Buffer b) past)
      (shown_on parts tells home truth shown)

  -- and what is stated of a pending queue is stated of it here
  pub locks_queues : (d : CpuId) (tells : P → Option (List Tid)) (home : Option (List Tid))
      → IsObserved FitsP cpu_below MayHold tells home
      (Some (pending_by (moves_in (beneath_the_lock protocol opening) past) d))
      → IsObserved FitsQ (λ q. cpu_below (below q)) MayHold (λ q. tells (below q)) home
      (Some (pending_by (moves_in (at_the_lock protocol opening) (renamed_events lock_call past))
      d))
  locks_queues d tells home shown =
      same_shown FitsQ _ MayHold (λ q. tells (below q)) home _ _
      (ap (λ moves. Some (pending_by moves d)) (sym (same_moves protocol opening past)))
      (shown_on parts tells home
      (Some (pending_by (moves_in (beneath_the_lock protocol opening) past) d)) shown)
