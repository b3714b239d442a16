-- What is read from a buffer's lock: its items, whether it is closed, its owner and its wait lists.
use Rattle.{std.specs.Prelude.{List, Option, Some}, event_log.specs.declared.ids.BufId.BufId}
use Rattle.event_log.specs.declared.ids.LockId.{LockId, TheVariants.Buffer}
use Rattle.layer_traits.specs.Views.Owned.{BufferShown, shows}
use Rattle.layer_traits.specs.declared.queue_edits.QueueBlock.{QueueBlock}
use Rattle.layer_traits.specs.Blocks.BufferProtocol.{BufferLock, buffer_monitor_rules}
use Rattle.layer_traits.specs.{Blocks.QueueBlocks.inner, Layers.Conditions.cv_rules}
use Rattle.layer_traits.specs.Layers.{QLocking.{wait_list_in, lock_after}, Queues.buffer_sections}
use Rattle.fifo_buffer.specs.SectionPolls.{BufferEvent}

-- what the buffer of a lock shows
abbrev pub buffer_shown : BufferLock → BufferShown
buffer_shown lock =
    shows lock.above.items lock.above.closed lock.owner (λ line. wait_list_in line (Some lock))

-- the lock of a buffer after these events
abbrev pub buffer_lock_of : (LockId → Option (QueueBlock BufferLock)) → List BufferEvent → BufId
    → Option BufferLock
buffer_lock_of opening past b =
    lock_after (cv_rules buffer_monitor_rules) (inner opening) (Buffer b) (buffer_sections past)
