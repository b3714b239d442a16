-- What a machine of lists reports: everything is in its place (home), and no part ever has anything
-- in its hands.
use Rattle.std.specs.Prelude.{◌≡◌, List, Option, Some, None, IsSome, option_map, slice_get}
use Rattle.std.proofs.Common.{refl, sym, ◌∙◌, subst}
use Rattle.event_log.specs.declared.ids.{BufId.BufId, CpuId.CpuId, LockId.LockId}
use Rattle.event_log.specs.declared.ids.{LockId.TheVariants.{Pending, Buffer}, Tid.Tid}
use Rattle.event_log.specs.Sections.{Section, block_after}
use Rattle.layer_traits.specs.declared.queue_edits.QueueBlock.{QueueBlock, TheVariants.Queue}
use Rattle.layer_traits.specs.declared.queue_edits.QueueBlock.TheVariants.{Above}
use Rattle.layer_traits.specs.{declared.queues.QueueEvent.QueueEvent, Threads.MoveRules.MoveRules}
use Rattle.layer_traits.specs.{Threads.Places.pending_by, Protocols.OneLock.opened}
use Rattle.layer_traits.specs.{Protocols.Protocol.Rules, Views.Owned.IsObserved}
use Rattle.layer_traits.specs.{Blocks.QueueBlocks.{above_of, inner}, Layers.Queues.buffer_sections}
use Rattle.layer_traits.{specs.Layers.Queues.{kernel, moves_in}, proofs.Alone.block_there}
use Rattle.plain_layers.specs.{declared.kernel.{Lists.Lists, Opening.Opening}, Kernels.IsKernel}
use Rattle.plain_layers.specs.{Kernels.opening_of, Tables.IsTable}

-- what is there and in its place is shown
shown_at_home : {P A : Type 0} (Coupled : P → Type 0) (cpu_of : P → CpuId)
    (IsInside : CpuId → Type 0)
    (home truth : Option A) → home ≡ truth → IsSome truth
    → IsObserved Coupled cpu_of IsInside (λ p. None) home truth
shown_at_home {P} {A} Coupled cpu_of IsInside home truth is there = record {
  by_machine = λ x tells. sym is ∙ tells;
  by_part = λ p x coupled tells. absurd (cc tells);
  somewhere = λ none. absurd (nothing (subst (λ o. IsSome o) (sym is ∙ none) there));
}
  where
    nothing : IsSome {T = A} None → ⊥
    nothing some = cc

-- each block is in its place in the list of blocks
pub table_shown : {P E B O : Type 0} (protocol : Rules E B O) (opening : LockId → Option B)
    (past : List (Section E)) (list : List (LockId × B))
    (Coupled : P → Type 0) (cpu_of : P → CpuId) (IsInside : CpuId → Type 0) (lock : LockId)
    → IsTable protocol opening past list → IsSome (opening lock)
    → IsObserved Coupled cpu_of IsInside (λ p. None) (opened list lock)
    (block_after protocol.edited opening lock past)
table_shown protocol opening past list Coupled cpu_of IsInside lock table there =
    shown_at_home Coupled cpu_of IsInside (opened list lock)
    (block_after protocol.edited opening lock past) (table.blocks lock)
    (block_there protocol.edited opening lock past there)

module _ {E B O : Type 0} (protocol : Rules E B O) (mv : MoveRules E O) (start : Opening B)
    (past : List (QueueEvent E)) (lists : Lists B)
    (sound : IsKernel protocol mv start past lists) where
  -- each buffer's block is in its place, whatever the parts are
  pub block_shown : {P : Type 0} (Coupled : P → Type 0) (cpu_of : P → CpuId)
      (IsInside : CpuId → Type 0) (b : BufId) → IsSome (opening_of start (Buffer b))
      → IsObserved Coupled cpu_of IsInside (λ p. None) (slice_get lists.buffers.items b.0)
      (block_after protocol.edited (inner (opening_of start)) (Buffer b) (buffer_sections past))
  block_shown Coupled cpu_of IsInside b there =
      shown_at_home Coupled cpu_of IsInside (slice_get lists.buffers.items b.0)
      (block_after protocol.edited (inner (opening_of start)) (Buffer b) (buffer_sections past))
      (sound.blocks b)
      (block_there protocol.edited (inner (opening_of start)) (Buffer b) (buffer_sections past)
      (go (slice_get start.lists.value.buffers.items b.0) there))
    where
      go : (o : Option B) → IsSome (option_map Above o) → IsSome (above_of (option_map Above o))
      go None some = absurd cc
      go (Some block) some = refl

  -- and so is each pending queue
  pub queue_shown : {P : Type 0} (Coupled : P → Type 0) (cpu_of : P → CpuId)
      (IsInside : CpuId → Type 0) (d : CpuId) → IsSome (opening_of start (Pending d))
      → IsObserved Coupled cpu_of IsInside (λ p. None) (slice_get lists.pending.items d.0)
      (Some (pending_by (moves_in (kernel protocol mv
      (opening_of start)) past) d))
  queue_shown Coupled cpu_of IsInside d there =
      let queue = pending_by (moves_in (kernel protocol mv (opening_of start)) past) d in
      shown_at_home Coupled cpu_of IsInside (slice_get lists.pending.items d.0) (Some queue)
      (sound.queues d ∙ go queue (slice_get start.lists.value.pending.items d.0) there) refl
    where
      queue_of : List Tid → QueueBlock B
      queue_of queue = Queue queue start.homes

      go : (queue : List Tid) (o : Option (List Tid)) → IsSome (option_map queue_of o)
          → option_map (λ old. queue) o ≡ Some queue
      go queue None some = absurd cc
      go queue (Some old) some = refl
