-- A boot's threads, as its plan lists them.
use Rattle.{std.specs.Prelude.{List, map}, boot.specs.declared.tasks.Task.Task as TaskInside}
use Rattle.boot.specs.Plan.{Task}

-- a thread
abbrev pub plan_task_of : TaskInside → Task
plan_task_of t = record { home = t.home.0; program = t.program }

-- the threads
abbrev pub tasks_of : List TaskInside → List Task
tasks_of tasks = map plan_task_of tasks
