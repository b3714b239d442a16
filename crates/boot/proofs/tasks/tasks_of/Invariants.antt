use Rattle.std.proofs.Common.{◌≡◌, length}
use Rattle.{toml.specs.View.table_view, boot.{specs.Seen.tasks_of, proofs.TasksLemmas.TasksSoFar}}
use Rattle.boot.proofs.tasks.tasks_of.Given as goal

abbrev pub invariant-loop-index : goal.invariant-loop-index
invariant-loop-index l = (length l.tasks.items ≡ l.index)
    × TasksSoFar (λ table. table_view table.now) l.cpus l.buffers l.tables l.index (tasks_of l.tasks.items)
