use Rattle.std.proofs.Common.{◌≡◌, drop}
use Rattle.tracer.specs.{Gather.entries_in, declared.versions.Version.TheVariants.One, Versions.version_from}
use Rattle.tracer.proofs.versions.version_of.Given as goal

abbrev pub invariant-loop-entry : goal.invariant-loop-entry
invariant-loop-entry l = record { goes_on : version_from l.version (entries_in (drop l.entry-index l.entries)) ≡ version_from One (entries_in l.fn.entries) }
