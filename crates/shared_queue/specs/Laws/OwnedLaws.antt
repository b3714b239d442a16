-- What the underlying locks state of their blocks, shared queues state of what they read from them:
-- a buffer's block, or a queue's threads.
use Rattle.std.{proofs.Common.{arith, ap, sym, ◌∙◌}, specs.Prelude.{◌≡◌, List, Option, Some, None}}
use Rattle.std.specs.{Prelude.{IsSome, option_map, map, refl}, Option.option_and_then}
use Rattle.event_log.specs.declared.ids.{BufId.BufId, CpuId.CpuId, LockId.LockId}
use Rattle.event_log.specs.declared.ids.{LockId.TheVariants.{Pending, Buffer}, Tid.Tid}
use Rattle.event_log.specs.Sections.{block_after}
use Rattle.layer_traits.specs.declared.queue_edits.QueueBlock.{QueueBlock, TheVariants.Queue}
use Rattle.layer_traits.specs.declared.queue_edits.QueueBlock.TheVariants.{Above}
use Rattle.layer_traits.specs.Threads.{MoveRules.{MoveRules, WakesSleepers}, Places.pending_by}
use Rattle.layer_traits.specs.{Views.Owned.IsObserved, Protocols.Protocol.Rules}
use Rattle.layer_traits.specs.Blocks.QueueBlocks.{StartsAs, inner, with_queue}
use Rattle.layer_traits.specs.{Blocks.QueueRules.queue_edited, Layers.Queues.buffer_sections}
use Rattle.layer_traits.specs.Layers.Queues.{event_of, kernel, moves_in}
use Rattle.layer_traits.proofs.NestedLemmas.{buffer_block, queue_block}
use Rattle.shared_queue.specs.OwnedLaws.{Observers, above_in, queue_in}

-- each true value can be read
abbrev CanRead : {A B : Type 0} → (A → Option B) → Option A → Option B → Type 0
CanRead {A} {B} read truth history =
    (x : A) → truth ≡ Some x → (y : B) × (read x ≡ Some y) × (history ≡ Some y)

module _ {A B : Type 0} (read : A → Option B) (truth : Option A) (history : Option B)
    (can : CanRead read truth history) where
  read_some : (o : Option A) → ((x : A) → o ≡ Some x → truth ≡ Some x) → (y : B)
      → option_and_then read o ≡ Some y → history ≡ Some y
  read_some o tells y is = grind arith

  read_none : (o : Option A) → ((x : A) → o ≡ Some x → truth ≡ Some x)
      → option_and_then read o ≡ None → o ≡ None
  read_none o tells given = grind arith

  -- what is stated of a block is stated of what is read from it
  shown_read : {P : Type 0} (Coupled : P → Type 0) (cpu_of : P → CpuId) (IsInside : CpuId → Type 0)
      (here : P → Option A) (home : Option A)
      → IsObserved Coupled cpu_of IsInside here home truth
      → IsObserved Coupled cpu_of IsInside (λ p. option_and_then read (here p))
      (option_and_then read home) history
  shown_read Coupled cpu_of IsInside here home shown = record {
    by_machine = λ y tells. read_some home shown.by_machine y tells;
    by_part =
        λ p y coupled tells. read_some (here p)
        (λ x abstract_answer. shown.by_part p x coupled abstract_answer) y tells;
    somewhere = λ none. let at = shown.somewhere (read_none home shown.by_machine none) in record {
      cpu = at.cpu;
      known = at.known;
      inside = at.inside;
      has =
          λ p same coupled none. at.has p same coupled
          (read_none (here p) (λ x abstract_answer. shown.by_part p x coupled abstract_answer)
          none);
    };
  }

can_read_above : {B : Type 0} (truth : Option (QueueBlock B)) (above : Option B)
    → truth ≡ option_map Above above → CanRead above_in truth above
can_read_above truth None is x tells = let none = is in absurd (cc (none, tells))
can_read_above truth (Some block) is x tells =
    (block, ap (option_and_then above_in) (sym tells ∙ is), refl)

can_read_queue : {B : Type 0} (d : CpuId) (opened : Option (QueueBlock B)) → IsSome opened
    → StartsAs (Pending d) opened → (truth : Option (QueueBlock B))
    (queue : List Tid) → truth ≡ with_queue queue opened → CanRead queue_in truth (Some queue)
can_read_queue d None there kind truth queue is x tells = absurd cc
can_read_queue d (Some (Queue old homes)) there kind truth queue is x tells =
    (queue, ap (option_and_then queue_in) (sym tells ∙ is), refl)
can_read_queue d (Some (Above block)) there kind truth queue is x tells = absurd kind

module _ {P E B O : Type 0} (protocol : Rules E B O) (mv : MoveRules E O)
    (opening : LockId → Option (QueueBlock B)) (those : Observers P protocol mv opening) where
  open those use {past, starts, lawful, Coupled, cpu_of, IsInside}

  -- what is stated of a buffer's lock is stated of the buffer
  pub buffer_shown : (b : BufId) (here : P → Option (QueueBlock B)) (home : Option (QueueBlock B))
      → IsObserved Coupled cpu_of IsInside here home
      (block_after (queue_edited protocol.edited) opening (Buffer b) past)
      → IsObserved Coupled cpu_of IsInside (λ p. option_and_then above_in (here p))
      (option_and_then above_in home)
      (block_after protocol.edited (inner opening) (Buffer b) (buffer_sections (map event_of past)))
  buffer_shown b here home shown =
      shown_read above_in _ _
      (can_read_above _ _ (buffer_block protocol mv opening starts b past lawful)) Coupled cpu_of
      IsInside
      here home shown

  -- what is stated of a pending queue's lock is stated of the queue
  pub queue_shown : WakesSleepers protocol mv → (d : CpuId) → IsSome (opening (Pending d))
      → (here : P → Option (QueueBlock B)) (home : Option (QueueBlock B))
      → IsObserved Coupled cpu_of IsInside here home
      (block_after (queue_edited protocol.edited) opening (Pending d) past)
      → IsObserved Coupled cpu_of IsInside (λ p. option_and_then queue_in (here p))
      (option_and_then queue_in home)
      (Some (pending_by (moves_in (kernel protocol mv opening) (map event_of past)) d))
  queue_shown wakes d there here home shown = shown_read queue_in _ _
      (can_read_queue d (opening (Pending d)) there (starts.kinds (Pending d)) _ _
      (queue_block protocol mv opening starts wakes d past lawful)) Coupled cpu_of
      IsInside here home shown
