use Rattle.std.proofs.Common.{ℕ, ◌<◌, get_or}
use Rattle.{tracer.specs.Gather.entries_in, event_log.specs.{declared.entries.Entry.Entry, Messages.IsMessage}}
use Rattle.mctower.proofs.run.trace_texts.values_fit.Given as goal

abbrev pub invariant-loop-entry : goal.invariant-loop-entry
invariant-loop-entry l = (k : ℕ) (d : Entry) → k < l.entry-index → IsMessage (get_or (entries_in l.entries) k d).value
