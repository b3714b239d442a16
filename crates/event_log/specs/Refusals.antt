-- The error of a failed allocation.
use Rattle.event_log.specs.declared.refusals.NoMemory.{NoMemory}

-- the value of this error: the type has only this value, and a program gets it only from the
-- allocator's error
abbrev pub no_memory : NoMemory
no_memory = record { refused = tt }
