-- Positions in a line: what a line's counter counts.
use Rattle.std.specs.Prelude.{◌≡◌, ℕ, ◌%◌, ◌^◌, ◌<◌, Bool, false, ◌&&◌, List, length, Option}
use Rattle.layer_traits.specs.Blocks.{Capacities.caps_in, BufferEffects.drawn_in}
use Rattle.layer_traits.specs.Blocks.BufferProtocol.{BufferLock, BufferSection, buffer_lock_at}
use Rattle.layer_traits.specs.Blocks.{BufferProtocol.buffer_monitor_rules, QueueBlocks.StartsWell}
use Rattle.layer_traits.specs.Blocks.QueueBlocks.{inner}
use Rattle.layer_traits.specs.declared.buffer_edits.BufferEdit.{BufferEdit, TheVariants.Enter}
use Rattle.layer_traits.specs.declared.buffer_edits.BufferEdit.TheVariants.{TryPut, TryTake, Shut}
use Rattle.layer_traits.specs.declared.conditions.CvEdit.TheVariants.{Edit, SignalFront}
use Rattle.layer_traits.specs.declared.locked.QLockCall.TheVariants.{Acquire, Inside, Release}
use Rattle.layer_traits.specs.declared.{locked.Side.Side, queue_edits.QueueBlock.QueueBlock}
use Rattle.layer_traits.specs.Layers.{Conditions.{CvCall, cv_rules}, QLockLaw.lock_kernel}
use Rattle.layer_traits.specs.Layers.Queues.{QueueAllowed, buffer_sections}
use Rattle.event_log.specs.declared.ids.{BufId.BufId, LockId.{LockId, TheVariants.Buffer}}
use Rattle.event_log.specs.History.{IsLawful, how_many, same_lock}
use Rattle.fifo_buffer.specs.{FifoFits.BootsSo, Stances.same_side, SectionPolls.BufferEvent}

-- whether a call enters this side's line
abbrev pub enters_side : Side → CvCall BufferEdit → Bool
enters_side side (Acquire t) = false
enters_side side (Inside (Edit (Enter t at))) = same_side side at
enters_side side (Inside (Edit (TryPut t m))) = false
enters_side side (Inside (Edit (TryTake t))) = false
enters_side side (Inside (Edit (Shut t))) = false
enters_side side (Inside (SignalFront t at)) = false
enters_side side (Release leave) = false

-- how many of these sections entered this side's line of a lock's buffer
abbrev pub entered_count : Side → LockId → List BufferSection → ℕ
entered_count side lock past = how_many (λ s. same_lock lock s.lock && enters_side side s.edit) past

-- after lawful events a line's counter, which is the position of the next thread that enters, is
-- the number of threads that entered it
abbrev pub PositionsAreCounts : Type 0
PositionsAreCounts =
    (opening : LockId → Option (QueueBlock BufferLock)) (past : List BufferEvent)
    → StartsWell opening → BootsSo opening
    → IsLawful (QueueAllowed (lock_kernel (cv_rules buffer_monitor_rules) opening)) past
    → (b : BufId) (side : Side) → b.0 < length (caps_in opening)
    → drawn_in side (buffer_lock_at (inner opening) (buffer_sections past) (Buffer b))
    ≡ entered_count side (Buffer b) (buffer_sections past) % 2 ^ 64
