use Rattle.{std.proofs.Common.{[]}, event_log.{specs.Buffers.empty_buffers, proofs.RunLemmas.{left_from, next_from}}}
use Rattle.event_log.proofs.runs.run_by_index.Goals as goal

pub returns-clause-runs : goal.returns-clause-runs
returns-clause-runs c = λ caps es left run. (left_from caps [] (empty_buffers caps) es left run, next_from caps [] (empty_buffers caps) es left run)
