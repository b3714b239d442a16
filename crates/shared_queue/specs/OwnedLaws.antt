-- What is read from a lock's block: a buffer's block or a queue's threads; and which parts observe
-- blocks.
use Rattle.{std.specs.Prelude.{List, Option, Some, None}, event_log.specs.declared.ids.CpuId.CpuId}
use Rattle.event_log.specs.{declared.ids.{LockId.LockId, Tid.Tid}, History.IsLawful}
use Rattle.event_log.specs.Sections.{Section}
use Rattle.layer_traits.specs.declared.queue_edits.QueueBlock.{QueueBlock, TheVariants.Queue}
use Rattle.layer_traits.specs.declared.queue_edits.QueueBlock.TheVariants.{Above}
use Rattle.layer_traits.specs.declared.queue_edits.QueueEdit.{QueueEdit}
use Rattle.layer_traits.specs.{Threads.MoveRules.MoveRules, Protocols.Protocol.Rules}
use Rattle.layer_traits.specs.Blocks.{QueueBlocks.StartsWell, QueueRules.SectionAllowed}

-- the block of the layer above, if it is one
abbrev pub above_in : {B : Type 0} → QueueBlock B → Option B
above_in (Queue queue homes) = None
above_in (Above block) = Some block

-- the threads of a queue, if it is one
abbrev pub queue_in : {B : Type 0} → QueueBlock B → Option (List Tid)
queue_in (Queue queue homes) = Some queue
queue_in (Above block) = None

-- lawful sections over the blocks of a boot, and the parts that observe blocks. They say which
-- parts fit, the CPU of each, and when a CPU is in a section
pub record Observers (P : Type 0) {E B O : Type 0} (protocol : Rules E B O) (mv : MoveRules E O)
    (opening : LockId → Option (QueueBlock B)) : Type 1 where
  pub past : List (Section (QueueEdit E))
  pub starts : StartsWell opening
  pub lawful : IsLawful (SectionAllowed protocol mv opening) past
  pub Coupled : P → Type 0
  pub cpu_of : P → CpuId
  pub IsInside : CpuId → Type 0

abbrev pub observers : {P E B O : Type 0} (protocol : Rules E B O) (mv : MoveRules E O)
    (opening : LockId → Option (QueueBlock B))
    (past : List (Section (QueueEdit E))) → StartsWell opening
    → IsLawful (SectionAllowed protocol mv opening) past → (P → Type 0) → (P → CpuId)
    → (CpuId → Type 0) → Observers P protocol mv opening
observers protocol mv opening past starts lawful Coupled cpu_of IsInside =
    record {
      past = past;
      starts = starts;
      lawful = lawful;
      Coupled = Coupled;
      cpu_of = cpu_of;
      IsInside = IsInside;
    }
