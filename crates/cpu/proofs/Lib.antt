pub mod Wakeups
pub mod CpuSteps
pub mod ListFacts
pub mod Tower
pub mod WholeSystems
pub mod StepTable
pub mod OverLayer
pub mod TableOrder
