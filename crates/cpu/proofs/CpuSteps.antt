-- Steps of one CPU: polls of its calls, passes, and what they leave apart from these.
pub mod GuestsFollow
pub mod CpuStates
pub mod CallSteps
pub mod StepsBesideGuests
pub mod PassSteps
pub mod CpuRuns
pub mod CallRuns
