-- Traces have one order that takes at each point the first trace that is ready.
use Rattle.std.specs.Prelude.{◌≡◌, List}
use Rattle.event_log.specs.{declared.entries.Entry.Entry, Traces.IsInterleaving}
use Rattle.tracer.specs.Gather.{TakesFirstReady}

abbrev pub OneOrderIsTaken : Type 0
OneOrderIsTaken =
    (traces : List (List Entry)) (one other : List Entry) → IsInterleaving traces one
    → IsInterleaving traces other
    → TakesFirstReady traces one → TakesFirstReady traces other → one ≡ other
