-- First come, first served: the calls of one side of a buffer take effect in the order in which
-- their threads entered its line (wait queue).
use Rattle.std.specs.Prelude.{◌≡◌, ℕ, ◌<◌, ◌==◌, ◌&&◌, List, [], ◌∷◌, ◌++◌, length, Option, Some}
use Rattle.std.specs.Prelude.{if◌then◌else◌}
use Rattle.layer_traits.specs.Blocks.{Capacities.caps_in, BufferBlocks.line_of}
use Rattle.layer_traits.specs.Blocks.{BufferEffects.effects_in, BufferProtocol.BufferLock}
use Rattle.layer_traits.specs.Blocks.BufferProtocol.{BufferSection, buffer_lock_at}
use Rattle.layer_traits.specs.Blocks.BufferProtocol.{buffer_monitor_rules, buffer_rules}
use Rattle.layer_traits.specs.{Blocks.QueueBlocks.{StartsWell, inner}, declared.locked.Side.Side}
use Rattle.layer_traits.specs.declared.locked.Side.TheVariants.{Receivers, Senders}
use Rattle.layer_traits.specs.declared.queue_edits.QueueBlock.{QueueBlock}
use Rattle.layer_traits.specs.Layers.{Conditions.cv_rules, QLockLaw.lock_kernel}
use Rattle.layer_traits.specs.Layers.{QLocking.lock_caller, Queues.{QueueAllowed, buffer_sections}}
use Rattle.event_log.specs.declared.{entries.Entry.Entry, ids.{BufId.BufId, LockId.LockId}}
use Rattle.event_log.specs.{declared.ids.{LockId.TheVariants.Buffer, Tid.Tid}, History.IsLawful}
use Rattle.event_log.specs.{History.same_lock, Runs.{Group, Sends, Receives, group_of, same_group}}
use Rattle.fifo_buffer.specs.{FifoFits.BootsSo, Positions.enters_side, SectionPolls.BufferEvent}

-- the threads that entered this side's line of a lock's buffer in these sections, oldest first
abbrev pub joiners_of : Side → LockId → List BufferSection → List Tid
joiners_of side lock [] = []
joiners_of side lock (s ∷ past) =
    if same_lock lock s.lock && enters_side side s.edit
    then joiners_of side lock past ++ lock_caller buffer_rules s.edit ∷ []
    else joiners_of side lock past

-- the effects that are counted with this side's
abbrev pub group_on : Side → Group
group_on Receivers = Receives
group_on Senders = Sends

-- the threads whose calls of this side took effect on buffer b, oldest first
abbrev pub served : Side → ℕ → List Entry → List Tid
served side b [] = []
served side b (e ∷ past) =
    if (b == e.buffer.0) && same_group (group_of e.kind) (group_on side)
    then served side b past ++ e.thread ∷ [] else served side b past

-- after lawful events, the threads that entered a line, oldest first, are those whose calls of its
-- side took effect, in the order of these effects, followed by those in the line
abbrev pub FirstComeFirstServed : Type 0
FirstComeFirstServed =
    (opening : LockId → Option (QueueBlock BufferLock)) (past : List BufferEvent)
    → StartsWell opening → BootsSo opening
    → IsLawful (QueueAllowed (lock_kernel (cv_rules buffer_monitor_rules) opening)) past
    → (b : BufId) (side : Side) → b.0 < length (caps_in opening)
    → (lock : BufferLock) → buffer_lock_at (inner opening) (buffer_sections past) (Buffer b)
    ≡ Some lock
    → joiners_of side (Buffer b) (buffer_sections past)
    ≡ served side b.0 (effects_in (inner opening) (buffer_sections past)) ++ line_of side lock.above
