-- The view of an event log in clauses.
use Rattle.{std.specs.Prelude.{ℕ, List}, event_log.specs.declared.logs.EventLog.EventLog}

-- the events of a log, oldest first
abbrev pub events_in : {E : Type 0} → EventLog E → List E
events_in log = log.events.items

-- how many events a log has room for
abbrev pub room_of : {E : Type 0} → EventLog E → ℕ
room_of log = log.room
