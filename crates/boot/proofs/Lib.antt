pub mod SeenLemmas
pub mod CapsLemmas
pub mod TasksLemmas
pub mod PlanLemmas
