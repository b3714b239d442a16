-- The locks of a tower at boot, as its layers read them.
use Rattle.std.proofs.{Common.{◌≡◌, ℕ, ◌≤◌, List, length, map, Option, option_map, slice_get, refl, ap, sym, ◌∙◌, arith}, Math.Path.fun_ext}
use Rattle.std.proofs.lemmas.Option.{slice_get-map}
use Rattle.{event_log.specs.declared.ids.{BufId.BufId, LockId.{LockId, TheVariants.{Buffer, Pending}}}, fifo_buffer.specs.MonitorHistories.MonitorLocked}
use Rattle.fifo_buffer.{specs.{MonitorHistories.fresh_monitors, MonitorParts.{OpensFresh, monitor_shown}, Monitors.empty_monitor}, proofs.Opening.caps_are}
use Rattle.{ipc_calls.specs.Openings.locks_at_boot, layer_traits.specs.{declared.queue_edits.QueueBlock.QueueBlock, Blocks.BufferBlocks.BufferState}}
use Rattle.layer_traits.specs.Blocks.{BufferBlocks.empty_block, BufferEffects.opening_locks, Capacities.caps_in, QueueBlocks.{StartsWell, inner}}
use Rattle.layer_traits.{specs.{Views.Renaming.viewed, Layers.Sleeping.SleepState}, proofs.KernelRenaming.inner_viewed}
use Rattle.queuing_lock.specs.{declared.edits.QLockBlock.QLockBlock, Nested.{nested_lock_of, unowned}}
use Rattle.sleep_wakeup.specs.{declared.edits.SleepBlock.SleepBlock, Nested.{resting, state_of}}

-- the locks whose blocks were made for these capacities
module _ {B : Type 0} (opening : LockId → Option (QueueBlock (SleepBlock B))) (caps : List ℕ) (block : ℕ → B) (blocks : List B)
    (made : List (SleepBlock B)) (starts : StartsWell opening) (blocks_are : blocks ≡ map block caps) (made_are : made ≡ map resting blocks)
    (at : (b : BufId) → inner opening (Buffer b) ≡ slice_get made b.0) where
  made_at : (lock : LockId) → inner (viewed state_of opening) lock ≡ locks_at_boot block caps lock
  made_at lock = let kind = starts.kinds lock in grind (arith, inner_viewed, slice_get-map)

  pub opened_as_made : inner (viewed state_of opening) ≡ locks_at_boot block caps
  opened_as_made = fun_ext made_at

-- the locks of queuing locks, as the layers above them read them
module _ (opening : LockId → Option (QueueBlock (SleepState (QLockBlock BufferState)))) (caps : List ℕ)
    (boots : inner opening ≡ locks_at_boot (λ n. unowned (empty_block n)) caps) where
  unowned_at : (lock : LockId) → option_map nested_lock_of (locks_at_boot (λ n. unowned (empty_block n)) caps lock) ≡ opening_locks caps lock
  unowned_at lock = grind arith

  at_lock : (lock : LockId) → inner (viewed nested_lock_of opening) lock ≡ opening_locks caps lock
  at_lock lock = inner_viewed nested_lock_of opening lock ∙ ap (λ locks. option_map nested_lock_of (locks lock)) boots ∙ unowned_at lock

  pub tower_locks : inner (viewed nested_lock_of opening) ≡ opening_locks caps
  tower_locks = fun_ext at_lock

-- monitors at boot are fresh
fresh_at : (caps : List ℕ) (lock : LockId) → locks_at_boot empty_monitor caps lock ≡ fresh_monitors caps lock
fresh_at caps (Pending c) = refl
fresh_at caps (Buffer b) = refl

pub monitors_at_boot : (caps : List ℕ) → locks_at_boot empty_monitor caps ≡ fresh_monitors caps
monitors_at_boot caps = fun_ext (fresh_at caps)

-- and a machine that opened with them has their capacities
module _ (opening : LockId → Option (QueueBlock MonitorLocked)) (caps : List ℕ) (fresh : inner opening ≡ fresh_monitors caps)
    (few : length caps ≤ 256) where
  shown_fresh : (lock : LockId) → option_map monitor_shown (fresh_monitors caps lock) ≡ opening_locks caps lock
  shown_fresh lock = grind arith

  shown_at : (lock : LockId) → inner (viewed monitor_shown opening) lock ≡ opening_locks caps lock
  shown_at lock = inner_viewed monitor_shown opening lock ∙ ap (λ locks. option_map monitor_shown (locks lock)) fresh ∙ shown_fresh lock

  pub monitor_caps : caps_in (viewed monitor_shown opening) ≡ caps
  monitor_caps = caps_are (viewed monitor_shown opening) caps (fun_ext shown_at) few

  pub opens_fresh : OpensFresh opening
  opens_fresh = fresh ∙ ap fresh_monitors (sym monitor_caps)

  -- it shows the locks of empty buffers
  pub boots_shown : inner (viewed monitor_shown opening) ≡ opening_locks (caps_in (viewed monitor_shown opening))
  boots_shown = fun_ext shown_at ∙ ap opening_locks (sym monitor_caps)
