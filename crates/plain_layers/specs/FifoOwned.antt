-- What is read from a buffer's lock if a call is one section: its items, whether it is closed, and
-- its wait lists; no thread owns it.
use Rattle.{std.specs.Prelude.{Option, Some, None}, event_log.specs.declared.ids.Tid.Tid}
use Rattle.layer_traits.specs.{Layers.QLocking.{LockState, wait_list_in}, Views.Owned.BufferShown}
use Rattle.layer_traits.specs.Views.Owned.{shows, unowned_lock}
use Rattle.plain_layers.specs.{Attempts.PlainState, Fifos.PlainLocked}

-- what the buffer of a lock shows
abbrev pub buffer_of_plain : LockState PlainState → BufferShown
buffer_of_plain lock =
    shows lock.above.items lock.above.closed lock.owner (λ line. wait_list_in line (Some lock))

abbrev pub plain_buffer : PlainLocked → BufferShown
plain_buffer state = buffer_of_plain (unowned_lock state)

abbrev pub nobody : Option Tid
nobody = None
