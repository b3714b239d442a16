-- The laws of monitors as a layer of buffers, derived from those of sleep and wakeup below.
use Rattle.std.{specs.Prelude.{◌≡◌, List, length, Option, Some, None, refl}, proofs.Common.ap}
use Rattle.layer_traits.specs.Blocks.{Capacities.caps_in, QueueBlocks.{homes_in, inner}}
use Rattle.layer_traits.specs.{Views.Renaming.viewed, declared.queue_edits.QueueBlock.QueueBlock}
use Rattle.layer_traits.specs.declared.call_states.CallState.{CallState}
use Rattle.layer_traits.specs.declared.{queues.QueueEvent.QueueEvent, scheds.SchedCall.SchedCall}
use Rattle.layer_traits.specs.declared.scheds.SchedCall.TheVariants.{OnBuffer, Pass}
use Rattle.layer_traits.specs.Layers.{IpcLaw.WaitListsAgree, Queues.{buffer_sections, moves_in}}
use Rattle.layer_traits.specs.Layers.{Sleeping.{sleep_edited, wait_list_at}, SleepLaw.Sleeping}
use Rattle.layer_traits.specs.{Layers.SleepLaw.sleep_kernel, Threads.ListsAgree.ListsAgree}
use Rattle.fifo_buffer.specs.Laws.WaitLists.{lists_agree}
use Rattle.fifo_buffer.specs.declared.monitor_blocks.MonitorEdit.{MonitorEdit}
use Rattle.fifo_buffer.specs.declared.monitor_blocks.MonitorReply.{MonitorReply}
use Rattle.fifo_buffer.specs.{Monitors.monitor_rules, MonitorHistories.MonitorLocked}
use Rattle.fifo_buffer.specs.MonitorHistories.{fresh_monitor, monitor_lists}
use Rattle.fifo_buffer.specs.MonitorParts.{MonitorFits, OpensFresh, monitor_shown, monitor_under}
use Rattle.event_log.specs.declared.ids.{LockId.{LockId, TheVariants.{Pending, Buffer}}, Tid.Tid}

-- the wait lists of the monitors agree with the places of the threads
pub monitor_wait_lists : (opening : LockId → Option (QueueBlock MonitorLocked))
    (past : List (QueueEvent MonitorEdit)) → OpensFresh opening
    → ListsAgree monitor_rules opening past
    → WaitListsAgree (length (caps_in (viewed monitor_shown opening))) (homes_in opening)
    (moves_in (sleep_kernel monitor_rules opening) past)
    (monitor_lists (inner opening) (buffer_sections past))
monitor_wait_lists opening past fresh agree =
    lists_agree (sleep_edited monitor_rules) (inner opening) (buffer_sections past) fresh_monitor
    (caps_in (viewed monitor_shown opening)) wait_list_at
    (homes_in opening) (moves_in (sleep_kernel monitor_rules opening) past)
    (λ d. ap (λ locks. locks (Pending d)) fresh)
    (λ b. ap (λ locks. locks (Buffer b)) fresh) (λ line. refl) agree

-- a CPU on which nothing is under way has no call under way in the layer below
pub nothing_beneath : (opening : LockId → Option (QueueBlock MonitorLocked))
    (local : Sleeping MonitorReply) (call_states : List CallState)
    (under_way : Option (SchedCall MonitorEdit)) (calling : Option Tid)
    → MonitorFits opening local call_states under_way calling
    → monitor_under calling under_way ≡ None → under_way ≡ None
nothing_beneath opening local call_states None calling coupled nothing = refl
nothing_beneath opening local call_states (Some (Pass p)) None coupled nothing = absurd cc
nothing_beneath opening local call_states (Some (OnBuffer b e)) None coupled nothing =
    absurd coupled.calls.0
nothing_beneath opening local call_states (Some s) (Some t) coupled nothing = absurd cc
