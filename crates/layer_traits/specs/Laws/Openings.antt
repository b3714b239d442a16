-- A machine in which nothing was done has the blocks of its capacities and homes.
use Rattle.std.specs.Prelude.{◌≡◌, ◌⊎◌, ℕ, List, [], Option, Some, None, IsSome, option_map}
use Rattle.std.{specs.Prelude.slice_get, proofs.Common.{inl, inr, ap, subst, sym, ◌∙◌, arith}}
use Rattle.event_log.specs.declared.ids.{BufId.BufId, CpuId.CpuId, LockId.LockId}
use Rattle.event_log.specs.declared.ids.{LockId.TheVariants.{Pending, Buffer}, Tid.Tid}
use Rattle.layer_traits.specs.declared.queue_edits.QueueBlock.{QueueBlock, TheVariants.Queue}
use Rattle.layer_traits.specs.declared.queue_edits.QueueBlock.TheVariants.{Above}
use Rattle.layer_traits.specs.Blocks.BufferEffects.{fresh_lock, opening_locks}
use Rattle.layer_traits.specs.Blocks.{BufferProtocol.BufferLock, QueueBlocks.{StartsAs, StartsWell}}
use Rattle.layer_traits.specs.Blocks.QueueBlocks.{above_of, homes_in, inner}
use Rattle.layer_traits.specs.Layers.IpcLaw.{OpensSo}

module _ {B : Type 0} where
  -- a buffer's lock opens with the block that the layer above sees
  pub above_is : (b : BufId) (block : Option (QueueBlock B)) → StartsAs (Buffer b) block
      → block ≡ option_map Above (above_of block)
  above_is b block starts = grind arith

  -- a pending queue opens empty
  empty_queue : (d : CpuId) (block : Option (QueueBlock B)) → StartsAs (Pending d) block
      → IsSome block → (kept : _) × (block ≡ Some (Queue [] kept))
  empty_queue d None starts there = absurd (cc there)
  empty_queue d (Some (Queue queue homes)) starts there =
      (homes, ap (λ q. Some (Queue q homes)) starts)
  empty_queue d (Some (Above block)) starts there = absurd starts

made_above : (caps : List ℕ) (at : Option ℕ)
    → option_map Above (option_map fresh_lock at)
    ≡ option_map (λ capacity. Above (fresh_lock capacity)) at
made_above caps at = grind arith

-- the blocks of buffers and of queues
pub opens_so : (caps : List ℕ) (homes : List CpuId) (c : CpuId)
    (opening : LockId → Option (QueueBlock BufferLock)) → StartsWell opening
    → homes_in opening ≡ homes → IsSome (opening (Pending c)) → inner opening ≡ opening_locks caps
    → OpensSo caps homes c opening
opens_so caps homes c opening starts homes_are local locks = record {
  buffers = λ b. above_is b (opening (Buffer b)) (starts.kinds (Buffer b))
      ∙ ap (λ blocks. option_map Above (blocks (Buffer b))) locks
      ∙ made_above caps (slice_get caps b.0);
  queues =
      λ d which. empty_queue d (opening (Pending d)) (starts.kinds (Pending d)) (there d which);
}
  where
    there : (d : CpuId) → (d ≡ c) ⊎ ((u : Tid) × (slice_get homes u.0 ≡ Some d))
        → IsSome (opening (Pending d))
    there d (inl is) = subst (λ e. IsSome (opening (Pending e))) (sym is) local
    there d (inr home) =
        starts.queues home.0 d (ap (λ all. slice_get all home.0.0) homes_are ∙ home.1)
