-- What is read from a monitor: its items, whether it is closed, its wait lists, and a thread that
-- owes one of its firsts a wake-up, which the layer's trait shows as the owner of its lock.
use Rattle.{std.specs.Prelude.{Option, Some, None}, event_log.specs.declared.ids.Tid.Tid}
use Rattle.layer_traits.specs.{Layers.QLocking.{LockState, wait_list_in}, Views.Owned.BufferShown}
use Rattle.layer_traits.specs.Views.Owned.{shows, unowned_lock}
use Rattle.fifo_buffer.specs.{MonitorHistories.MonitorLocked, Monitors.{MonitorState, debtor_of}}

-- what the buffer of a lock shows
abbrev pub buffer_of_monitor : LockState MonitorState → BufferShown
buffer_of_monitor lock =
    shows lock.above.items lock.above.closed (debtor_of lock.above)
    (λ line. wait_list_in line (Some lock))

abbrev pub monitor_buffer : MonitorLocked → BufferShown
monitor_buffer state = buffer_of_monitor (unowned_lock state)

-- a thread that owes a first of a monitor a wake-up, if there is such a monitor
abbrev pub debtor_in : Option MonitorLocked → Option Tid
debtor_in None = None
debtor_in (Some state) = debtor_of state.above
