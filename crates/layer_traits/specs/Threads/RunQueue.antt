-- The policy of a CPU's run queue: where threads that become ready join it. Its first thread runs
-- next. The law of schedulers and the step table cite this definition.
use Rattle.std.specs.Prelude.{List, ◌++◌}
use Rattle.event_log.specs.declared.ids.Tid.{Tid}

-- the run queue after these threads joined it: they are behind those that were ready
abbrev pub joins : (threads ready : List Tid) → List Tid
joins threads ready = ready ++ threads
