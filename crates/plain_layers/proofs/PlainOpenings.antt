-- A machine that opens with empty buffers, as one-step buffers read it and as their layer's trait
-- shows it.
use Rattle.std.proofs.{Common.{arith, ◌≡◌, ℕ, ◌≤◌, List, length, map, Option, option_map, slice_get, ap, sym, ◌∙◌, ◌*◌, ◌/◌, lit<}, Math.Nat.le-div_iff_mul-le}
use Rattle.std.proofs.{Math.Path.fun_ext, lemmas.Option.slice_get-map}
use Rattle.{event_log.specs.declared.ids.{BufId.BufId, LockId.{LockId, TheVariants.Buffer}}, layer_traits.specs.Blocks.Capacities.caps_in}
use Rattle.layer_traits.specs.{Blocks.{BufferEffects.opening_locks, QueueBlocks.inner}, declared.queue_edits.QueueBlock.QueueBlock, Views.Renaming.viewed}
use Rattle.{layer_traits.proofs.KernelRenaming.inner_viewed, fifo_buffer.proofs.Opening.caps_are, sleep_wakeup.specs.declared.edits.SleepBlock.SleepBlock}
use Rattle.{sleep_wakeup.specs.Nested.{resting, state_of}, plain_layers.specs.{declared.kernel.Opening.Opening, Attempts.{PlainState, plain_empty_buffer}}}
use Rattle.plain_layers.specs.{Fifos.{PlainLocked, fresh_buffers, plain_shown}, Kernels.opening_of}

-- the buffers of a machine of lists that opened with these blocks
module _ (start : Opening (SleepBlock PlainState)) (caps : List ℕ) (buffers : List PlainState) (blocks : List (SleepBlock PlainState))
    (buffers_are : buffers ≡ map plain_empty_buffer caps) (blocks_are : blocks ≡ map resting buffers)
    (at : (b : BufId) → inner (opening_of start) (Buffer b) ≡ slice_get blocks b.0) where
  by_lock : (lock : LockId) → inner (viewed state_of (opening_of start)) lock ≡ fresh_buffers caps lock
  by_lock lock = grind (arith, inner_viewed, slice_get-map)

  pub opens_fresh : inner (viewed state_of (opening_of start)) ≡ fresh_buffers caps
  opens_fresh = fun_ext by_lock

-- a machine whose locks are those of fresh buffers has their capacities
module _ (opening : LockId → Option (QueueBlock PlainLocked)) (caps : List ℕ) (fresh : inner opening ≡ fresh_buffers caps) (few : length caps ≤ 256) where
  by_shown : (lock : LockId) → option_map plain_shown (fresh_buffers caps lock) ≡ opening_locks caps lock
  by_shown lock = grind arith

  at_lock : (lock : LockId) → inner (viewed plain_shown opening) lock ≡ opening_locks caps lock
  at_lock lock = inner_viewed plain_shown opening lock ∙ ap (λ locks. option_map plain_shown (locks lock)) fresh ∙ by_shown lock

  pub caps_observed : caps_in (viewed plain_shown opening) ≡ caps
  caps_observed = caps_are (viewed plain_shown opening) caps (fun_ext at_lock) few

  pub fresh_read : inner opening ≡ fresh_buffers (caps_in (viewed plain_shown opening))
  fresh_read = fresh ∙ ap fresh_buffers (sym caps_observed)

  -- and shows the locks of empty buffers
  pub boots_shown : inner (viewed plain_shown opening) ≡ opening_locks (caps_in (viewed plain_shown opening))
  boots_shown = fun_ext at_lock ∙ ap opening_locks (sym caps_observed)

-- there is room for so many calls if there is room for twice as many events
pub half_room : (room events : ℕ) → room * 2 ≤ events → room ≤ events / 2
half_room room events enough = (le-div_iff_mul-le {k = 2} (lit< tt)).1 enough
