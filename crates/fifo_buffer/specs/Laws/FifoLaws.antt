-- The laws of the layer of buffers, derived from those of the layer of conditions below.
use Rattle.std.proofs.Common.{◌≡◌, List, length, Option, Some, None, refl, ap}
use Rattle.layer_traits.specs.Blocks.{Capacities.caps_in, BufferEffects.{MayTakeEffect, effects_in}}
use Rattle.layer_traits.specs.Blocks.{BufferEffects.fresh_lock, BufferProtocol.BufferLock}
use Rattle.layer_traits.specs.Blocks.{BufferProtocol.buffer_monitor_rules, QueueBlocks.homes_in}
use Rattle.layer_traits.specs.Blocks.QueueBlocks.{inner}
use Rattle.layer_traits.specs.declared.buffer_edits.{BufferEdit.BufferEdit, BufferReply.BufferReply}
use Rattle.layer_traits.specs.declared.queue_edits.QueueBlock.{QueueBlock}
use Rattle.layer_traits.specs.declared.{scheds.SchedCall.SchedCall, call_states.CallState.CallState}
use Rattle.layer_traits.specs.Layers.{Conditions.{CvCall, cv_rules}, CvLaw.Waiting}
use Rattle.layer_traits.specs.Layers.{IpcLaw.WaitListsAgree, QLockLaw.{LocksAgree, lock_kernel}}
use Rattle.layer_traits.specs.Layers.QLocking.{wait_list_in, lock_after, lock_edited}
use Rattle.layer_traits.specs.Layers.Queues.{QueueAllowed, buffer_sections, moves_in}
use Rattle.event_log.specs.declared.ids.{CpuId.CpuId, LockId.{LockId, TheVariants.Pending}}
use Rattle.event_log.specs.{declared.ids.{LockId.TheVariants.Buffer, Tid.Tid}, History.IsLawful}
use Rattle.fifo_buffer.specs.{FifoFits.{BootsSo, PartFits}, Laws.Tallies.effects_lawful}
use Rattle.fifo_buffer.specs.{Laws.WaitLists.lists_agree, SectionPolls.{BufferEvent, under_way_at}}
use Rattle.layer_traits.specs.declared.scheds.SchedCall.TheVariants as sched

-- each effect may follow those before it
pub fifo_lawful : (opening : LockId → Option (QueueBlock BufferLock)) (past : List BufferEvent)
    → BootsSo opening
    → IsLawful (QueueAllowed (lock_kernel (cv_rules buffer_monitor_rules) opening)) past
    → IsLawful (MayTakeEffect (caps_in opening))
    (effects_in (inner opening) (buffer_sections past))
fifo_lawful opening past boots lawful = effects_lawful opening (caps_in opening) boots past lawful

-- the wait lists of the buffers agree with the places of the threads
pub fifo_wait_lists : (opening : LockId → Option (QueueBlock BufferLock)) (past : List BufferEvent)
    → BootsSo opening
    → LocksAgree (cv_rules buffer_monitor_rules) opening past
    → WaitListsAgree (length (caps_in opening)) (homes_in opening)
    (moves_in (lock_kernel (cv_rules buffer_monitor_rules) opening) past)
    (λ b line. wait_list_in line
    (lock_after (cv_rules buffer_monitor_rules) (inner opening) (Buffer b) (buffer_sections past)))
fifo_wait_lists opening past boots agree =
    lists_agree (lock_edited (cv_rules buffer_monitor_rules)) (inner opening) (buffer_sections past)
    fresh_lock (caps_in opening) wait_list_in
    (homes_in opening) (moves_in (lock_kernel (cv_rules buffer_monitor_rules) opening) past)
    (λ d. ap (λ locks. locks (Pending d)) boots)
    (λ b. ap (λ locks. locks (Buffer b)) boots) (λ line. refl) agree

-- a CPU on which nothing is under way has no call under way in the layer below
pub no_call_beneath : (opening : LockId → Option (QueueBlock BufferLock)) (c : CpuId)
    (past : List BufferEvent) (local : Waiting BufferReply)
    (call_states : List CallState) (under_way : Option (SchedCall (CvCall BufferEdit)))
    (calling : Option Tid)
    → PartFits opening c past local call_states under_way calling
    → under_way_at calling under_way ≡ None → under_way ≡ None
no_call_beneath opening c past local call_states None calling coupled nothing = refl
no_call_beneath opening c past local call_states (Some (sched.Pass p)) None coupled nothing =
    absurd cc
no_call_beneath opening c past local call_states (Some (sched.OnBuffer b e)) None coupled nothing =
    absurd coupled.calls.none
no_call_beneath opening c past local call_states (Some s) (Some t) coupled nothing = absurd cc
