-- A stage determines whether a section is under way.
use Rattle.std.proofs.Common.{◌≡◌, List, Option, is_some, ap, sym}
use Rattle.event_log.specs.{declared.ids.{CpuId.CpuId, LockId.LockId}, Actions.{Action, AreLegal}}
use Rattle.event_log.specs.{Actions.phase, History.IsLawful, Sections.sections_in}
use Rattle.event_log.proofs.Foreign.{cpus_of_actions_known, sections_in_known}
use Rattle.layer_traits.specs.{Polling.Plans.is_in_section, Protocols.Protocol.{Rules, IsKnown}}
use Rattle.spinlock.specs.Stages.{StageFits, stage_section}
use Rattle.spinlock.specs.declared.stages.TicketPhase.{TicketPhase, TheVariants.{Out, Waiting}}
use Rattle.spinlock.specs.declared.stages.TicketPhase.TheVariants.{Holding}

-- a section is under way exactly while the CPU waits at a lock or holds one
pub stage_busy : {E B O : Type 0} (protocol : Rules E B O) (opening : LockId → Option B)
    (acts : List (Action E)) (cpu : CpuId) (stage : TicketPhase E B)
    → StageFits protocol opening acts cpu stage
    → is_some (stage_section cpu stage) ≡ is_in_section (phase cpu acts)
stage_busy protocol opening acts cpu Out coupled = sym (ap is_in_section coupled)
stage_busy protocol opening acts cpu (Waiting lock edit ticket) coupled =
    sym (ap is_in_section coupled.0.0)
stage_busy protocol opening acts cpu (Holding lock edit block) coupled =
    sym (ap is_in_section coupled.0)

-- the sections of legal actions are of CPUs that a machine may have
pub sections_known : {E : Type 0} (acts : List (Action E)) → AreLegal acts
    → IsLawful IsKnown (sections_in acts)
sections_known acts legal = sections_in_known acts (cpus_of_actions_known acts legal)
