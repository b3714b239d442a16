-- What the underlying scheduler states of its blocks, the layer states of their waiting lists.
use Rattle.std.proofs.Common.{◌≡◌, List, Option, Some, option_map, ap, sym, ◌∙◌}
use Rattle.event_log.specs.declared.ids.{BufId.BufId, CpuId.CpuId, LockId.LockId}
use Rattle.event_log.specs.{declared.ids.{LockId.TheVariants.Buffer, Tid.Tid}, Sections.block_after}
use Rattle.layer_traits.specs.declared.queue_edits.QueueBlock.{QueueBlock}
use Rattle.layer_traits.specs.{declared.queues.QueueEvent.QueueEvent, Views.Owned.IsObserved}
use Rattle.layer_traits.specs.{Views.Renaming.{renamed_events, viewed}, Threads.Places.pending_by}
use Rattle.layer_traits.specs.{Blocks.QueueBlocks.inner, Layers.Queues.{buffer_sections, moves_in}}
use Rattle.layer_traits.specs.Layers.Sleeping.{SleepRules, sleep_edited}
use Rattle.layer_traits.proofs.KernelRenaming.{block_renamed, sections_renamed}
use Rattle.layer_traits.proofs.OwnedLemmas.{PartsOn, same_shown, shown_on, viewed_shown}
use Rattle.sleep_wakeup.specs.declared.edits.{SleepBlock.SleepBlock, SleepEdit.SleepEdit}
use Rattle.sleep_wakeup.specs.Laws.NestedLaws.{beneath, here, nested_wraps, same_moves}
use Rattle.sleep_wakeup.specs.Nested.{slept_edit, nested_edited, state_of}

module _ {P Q E B O : Type 0} (protocol : SleepRules E B O)
    (opening : LockId → Option (QueueBlock (SleepBlock B))) (past : List (QueueEvent (SleepEdit E)))
    (parts : PartsOn P Q) where
  open parts use {below, FitsP, FitsQ, cpu_below, MayHold}

  -- the block of a buffer with its waiting lists is the view of the lower layer's block
  state_is : (b : BufId) → block_after (sleep_edited protocol) (inner (viewed state_of opening))
      (Buffer b) (buffer_sections (renamed_events slept_edit past))
      ≡ option_map state_of
      (block_after (nested_edited protocol) (inner opening) (Buffer b) (buffer_sections past))
  state_is b =
      ap (λ sections. block_after (sleep_edited protocol) (inner (viewed state_of opening))
      (Buffer b)
      sections) (sections_renamed slept_edit past)
      ∙ block_renamed _ _ _ _ (nested_wraps protocol opening) (Buffer b) (buffer_sections past)

  -- therefore what is stated of that block is stated of its waiting lists
  pub nested_shown : (b : BufId) (tells : P → Option (SleepBlock B)) (home : Option (SleepBlock B))
      → IsObserved FitsP cpu_below MayHold tells home
      (block_after (nested_edited protocol) (inner opening) (Buffer b) (buffer_sections past))
      → IsObserved FitsQ (λ q. cpu_below (below q)) MayHold
      (λ q. option_map state_of (tells (below q))) (option_map state_of home)
      (block_after (sleep_edited protocol) (inner (viewed state_of opening)) (Buffer b)
      (buffer_sections (renamed_events slept_edit past)))
  nested_shown b tells home shown =
      let truth =
      block_after (nested_edited protocol) (inner opening) (Buffer b) (buffer_sections past) in
      viewed_shown state_of FitsQ _ MayHold (λ q. tells (below q)) home truth _ (state_is b)
      (shown_on parts tells home truth shown)

  -- and what is stated of a pending queue is stated of it here
  pub nested_queues : (d : CpuId) (tells : P → Option (List Tid)) (home : Option (List Tid))
      → IsObserved FitsP cpu_below MayHold tells home
      (Some (pending_by (moves_in (beneath protocol opening) past) d))
      → IsObserved FitsQ (λ q. cpu_below (below q)) MayHold (λ q. tells (below q)) home
      (Some (pending_by (moves_in (here protocol opening) (renamed_events slept_edit past)) d))
  nested_queues d tells home shown =
      same_shown FitsQ _ MayHold (λ q. tells (below q)) home _ _
      (ap (λ moves. Some (pending_by moves d)) (sym (same_moves protocol opening past)))
      (shown_on parts tells home (Some (pending_by (moves_in (beneath protocol opening) past) d))
      shown)
