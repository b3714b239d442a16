-- The numbers of the locks: a table with a slot for each lock that there can be is indexed by them.
use Rattle.std.specs.Prelude.{ℕ, ◌+◌, ◌*◌}
use Rattle.event_log.specs.declared.ids.LockId.{LockId, TheVariants.{Pending, Buffer}}

-- a lock's number: even for that of a CPU's queue, odd for that of a buffer
abbrev pub lock_number : LockId → ℕ
lock_number (Pending cpu) = 2 * cpu.0
lock_number (Buffer buffer) = 2 * buffer.0 + 1
