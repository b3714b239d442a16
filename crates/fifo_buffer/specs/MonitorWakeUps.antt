-- No lost wake-up at a monitor that is free: no thread is between two sections of one call there.
use Rattle.std.specs.Prelude.{◌≡◌, ℕ, true, false, List, Option, Some, None}
use Rattle.event_log.specs.declared.ids.{BufId.BufId, LockId.{LockId, TheVariants.Buffer}, Tid.Tid}
use Rattle.{event_log.specs.Sections.Section, thread_blocks.specs.Queues.{first, is_in}}
use Rattle.layer_traits.specs.{declared.locked.Side.Side, Blocks.BufferBlocks.may_go}
use Rattle.layer_traits.specs.Layers.Sleeping.{wait_list_of}
use Rattle.fifo_buffer.specs.declared.monitor_blocks.MonitorEdit.{MonitorEdit}
use Rattle.fifo_buffer.specs.Monitors.{buffer_alone, debtor_of, monitor_line}
use Rattle.fifo_buffer.specs.MonitorHistories.{MonitorLocked, fresh_monitors, monitor_after}
use Rattle.fifo_buffer.specs.MonitorHistories.{sleeping_on}

-- while no thread owes a wake-up at a monitor, no first sleeps there whose call is allowed
abbrev pub FreeMonitorsStrandNoThread : Type 0
FreeMonitorsStrandNoThread =
    (opening : LockId → Option MonitorLocked) (caps : List ℕ) (past : List (Section MonitorEdit))
    → opening ≡ fresh_monitors caps
    → (b : BufId) (side : Side) (state : MonitorLocked)
    → monitor_after opening (Buffer b) past ≡ Some state → debtor_of state.above ≡ None
    → (u : Tid) → first (monitor_line side state.above) ≡ Some u
    → is_in u (wait_list_of (sleeping_on side) state) ≡ true
    → may_go side (buffer_alone state.above) ≡ false
