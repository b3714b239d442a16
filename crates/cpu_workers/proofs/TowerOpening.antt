-- The tower over a lock opens as the lock does: its buffers, its homes and its queues are those
-- that the locks hold.
use Rattle.std.{proofs.Common.{◌≡◌, ◌≤◌, ℕ, List, length, ◌∙◌, arith}, specs.Prelude.{IsSome, Option}}
use Rattle.layer_traits.specs.{Blocks.{Capacities.caps_in, BufferEffects.opening_locks, QueueBlocks.{homes_in, inner}}, Views.Renaming.viewed}
use Rattle.{layer_traits.proofs.KernelRenaming.{homes_viewed, viewed_there}, event_log.specs.declared.ids.{CpuId.CpuId, LockId.{LockId, TheVariants.Pending}}}
use Rattle.{event_log.specs.declared.ids.TheConstants.BUFFERS, fifo_buffer.{specs.FifoFits.BootsSo, proofs.Opening.{boots_well, caps_are as told_caps}}}
use Rattle.{queuing_lock.specs.Nested.nested_lock_of, sleep_wakeup.specs.Nested.state_of, cpu.specs.Tower.Views.TowerBlock, cpu_workers.specs.Seating.AnyBlock}

-- the locks as buffers see them
abbrev pub seen_from_top : (LockId → Option AnyBlock) → LockId → Option TowerBlock
seen_from_top opening = viewed nested_lock_of (viewed state_of opening)

-- what buffers and message calls ask of it
pub record OpensTower (caps : List ℕ) (homes : List CpuId) (c : CpuId) (opening : LockId → Option AnyBlock) : Type 0 where
  pub boots : BootsSo (seen_from_top opening)
  pub caps_are : caps_in (seen_from_top opening) ≡ caps
  pub homes_are : homes_in (seen_from_top opening) ≡ homes
  pub queue : IsSome (seen_from_top opening (Pending c))

pub opens_tower : (caps : List ℕ) (homes : List CpuId) (c : CpuId) (opening : LockId → Option AnyBlock) → length caps ≤ BUFFERS → homes_in opening ≡ homes
    → IsSome (opening (Pending c)) → inner (seen_from_top opening) ≡ opening_locks caps → OpensTower caps homes c opening
opens_tower caps homes c opening most homes_are queue locks = record {
  boots = boots_well (seen_from_top opening) caps locks few;
  caps_are = told_caps (seen_from_top opening) caps locks few;
  homes_are = homes_viewed nested_lock_of (viewed state_of opening) ∙ (homes_viewed state_of opening ∙ homes_are);
  queue = viewed_there nested_lock_of (viewed state_of opening) (Pending c) (viewed_there state_of opening (Pending c) queue);
}
  where
    few : length caps ≤ 256
    few = omega (arith, most)
