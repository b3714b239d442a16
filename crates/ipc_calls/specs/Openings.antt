-- What the locks of buffers hold at boot.
use Rattle.std.specs.Prelude.{ℕ, List, slice_get, Option, None, option_map}
use Rattle.event_log.specs.declared.ids.LockId.{LockId, TheVariants.{Pending, Buffer}}
use Rattle.layer_traits.specs.Layers.Sleeping.{SleepState}
use Rattle.sleep_wakeup.specs.Nested.{resting, state_of}

-- the locks of buffers of these capacities: no thread sleeps at them, and each guards the block of
-- its capacity
abbrev pub locks_at_boot : {B : Type 0} → (ℕ → B) → List ℕ → LockId → Option (SleepState B)
locks_at_boot block caps (Pending cpu) = None
locks_at_boot block caps (Buffer b) =
    option_map (λ capacity. state_of (resting (block capacity))) (slice_get caps b.0)
