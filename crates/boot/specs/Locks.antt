-- The names of the locks.
use Rattle.std.specs.Prelude.{ℕ, List, codes, bytes_eq, Option, Some, None, if◌then◌else◌}
use Rattle.boot.specs.declared.locks.LockKind.{LockKind, TheVariants.Ticket, TheVariants.Grant}

-- the lock of a name: of tickets, or of a grant word for each waiter
abbrev pub lock_named : List ℕ → Option LockKind
lock_named name =
    if bytes_eq name (codes "ticket") then Some Ticket
    else (if bytes_eq name (codes "grant") then Some Grant else None)
