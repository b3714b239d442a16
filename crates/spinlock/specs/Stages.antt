-- The stage of a section (its control state), in terms of the actions at the locks.
use Rattle.std.specs.Prelude.{◌≡◌, ◌%◌, ◌^◌, List, Option, Some, None, IsSome, if◌then◌else◌}
use Rattle.event_log.specs.{declared.ids.{CpuId.CpuId, LockId.LockId}, Actions.{Action, Rests}}
use Rattle.event_log.specs.{Actions.{Waits, Holds, phase, ticket_index_of}, History.same_lock}
use Rattle.event_log.specs.Sections.{Section, block_after, sections_in}
use Rattle.layer_traits.specs.Protocols.Protocol.{Rules, StaysAllowed, section}
use Rattle.spinlock.specs.declared.stages.TicketPhase.{TicketPhase, TheVariants.{Out, Waiting}}
use Rattle.spinlock.specs.declared.stages.TicketPhase.TheVariants.{Holding}

-- the section that is under way at a stage
abbrev pub stage_section : {E B : Type 0} → CpuId → TicketPhase E B → Option (Section E)
stage_section cpu Out = None
stage_section cpu (Waiting lock edit ticket) = Some (section cpu lock edit)
stage_section cpu (Holding lock edit block) = Some (section cpu lock edit)

-- the stage after another poll of a CPU that waits with a ticket: a poll that found this block
-- succeeds
abbrev pub hit_by : {E B : Type 0} → Option B → TicketPhase E B → TicketPhase E B
hit_by None stage = stage
hit_by (Some block) Out = Out
hit_by (Some block) (Waiting lock edit ticket) = Holding lock edit block
hit_by (Some block) (Holding lock edit old) = Holding lock edit old

-- the block of a lock, if a stage holds it
abbrev pub held_block : {E B : Type 0} → LockId → TicketPhase E B → Option B
held_block lock Out = None
held_block lock (Waiting at edit ticket) = None
held_block lock (Holding at edit block) = if same_lock lock at then Some block else None

-- coupling invariant of a stage: it is where the actions leave the CPU. The CPU is at rest, waits
-- with its ticket, or has the lock that it holds and that lock's block. The ticket is that of its
-- ticket index. The lock of a waiting section exists, and the section under way stays allowed
abbrev pub StageFits : {E B O : Type 0} → Rules E B O → (LockId → Option B) → List (Action E)
    → CpuId → TicketPhase E B → Type 0
StageFits protocol opening acts cpu Out = phase cpu acts ≡ Rests
StageFits protocol opening acts cpu (Waiting lock edit ticket) =
    ((phase cpu acts ≡ Waits lock) × (ticket ≡ ticket_index_of cpu acts % 2 ^ 64))
    × StaysAllowed (protocol.allowed opening) (sections_in acts) (section cpu lock edit)
    × IsSome (opening lock)
StageFits protocol opening acts cpu (Holding lock edit block) =
    (phase cpu acts ≡ Holds lock)
    × StaysAllowed (protocol.allowed opening) (sections_in acts) (section cpu lock edit)
    × (block_after protocol.edited opening lock (sections_in acts) ≡ Some block)
