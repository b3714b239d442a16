use Rattle.std.proofs.Common.{◌≡◌, ◌+◌, take}
use Rattle.event_log.proofs.rings.Ring.items_in.Given as goal

-- the first items are read
abbrev pub invariant-loop-i : goal.invariant-loop-i
invariant-loop-i g l = record { read : l.items.items ≡ take l.i l.fn.self; ticks : l.ticks ≡ l.fn.ticks + l.i }
