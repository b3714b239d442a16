use Rattle.std.proofs.Common.{◌<◌, All, take}
use Rattle.event_log.specs.Locks.{lock_number}
use Rattle.plain_machine.proofs.cells.table_len.Given as goal

abbrev pub invariant-loop-entry : goal.invariant-loop-entry
invariant-loop-entry g l = All (λ entry. lock_number entry.0 < l.len) (take l.entry-index l.blocks.items)
