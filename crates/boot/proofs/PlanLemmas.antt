-- A thread of a plan by its number.
use Rattle.std.proofs.{Common.{◌≡◌, ℕ, ◌<◌, List, [], length, get_or, map, sym, ◌∙◌, ap, subst}, lemmas.List.{length-map, get_or-map, Elements.All-get_or}}
use Rattle.boot.specs.{declared.tasks.Task.Task as TaskInside, Plan.{BootPlan, Task, IsTask, IsPlan, plan_home_of, plan_program_of}, Seen.plan_task_of}
use Rattle.boot.specs.Seen.{tasks_of}

-- `t` is the thread at `i` of the threads that the plan has
pub record IsThreadAt (plan : BootPlan) (tasks : List TaskInside) (i : ℕ) (t : TaskInside) : Type 0 where
  pub same : tasks_of tasks ≡ plan.tasks
  pub below : i < length plan.tasks
  pub here : t ≡ get_or tasks i t

module _ (plan : BootPlan) (tasks : List TaskInside) (i : ℕ) (t : TaskInside) (at : IsThreadAt plan tasks i t) where
  inside : i < length tasks
  inside =
      let longer : i < length (tasks_of tasks) = rw at.same at.below in
      rw (← length-map tasks plan_task_of) longer

  -- what the plan shows of it
  shown : {X : Type 0} (f : Task → X) (e : X) → f (plan_task_of t) ≡ get_or (map f plan.tasks) i e
  shown f e =
      ap (λ x. f (plan_task_of x)) at.here
      ∙ sym (ap (λ xs. get_or (map f xs) i e) (sym at.same) ∙ get_or-map f (tasks_of tasks) i (plan_task_of t) e (rw at.same at.below)
      ∙ ap f (get_or-map plan_task_of tasks i t (plan_task_of t) inside))

  pub home_at : t.home.0 ≡ plan_home_of plan i
  home_at = shown (λ task. task.home) 0

  pub program_at_index : t.program ≡ plan_program_of plan i
  program_at_index = shown (λ task. task.program) []

  -- its home is one of the CPUs
  pub home_exists : IsPlan plan → t.home.0 < plan.cpus
  home_exists is =
      let each = All-get_or (IsTask plan.cpus (length plan.caps)) plan.tasks i (plan_task_of t) at.below is.tasks.each in
      let same : get_or plan.tasks i (plan_task_of t) ≡ plan_task_of t = ap (λ xs. get_or xs i (plan_task_of t)) (sym at.same)
      ∙ get_or-map plan_task_of tasks i t (plan_task_of t) inside ∙ ap plan_task_of (sym at.here) in
      (subst (IsTask plan.cpus (length plan.caps)) same each).home
