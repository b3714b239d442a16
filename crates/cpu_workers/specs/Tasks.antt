-- Tasks in their own threads.
use Rattle.std.specs.Prelude.{Result, Ok, Err}

-- the task of a start: that which its thread promises to run, or that for which no thread could be
-- started
abbrev pub task_of : {H T : Type 0} → (H → T) → Result H T → T
task_of promised (Ok child) = promised child
task_of promised (Err task) = task
