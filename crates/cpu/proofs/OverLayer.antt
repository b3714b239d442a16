-- A CPU and a system over any layer of message calls, by its laws.
pub mod CpuOverLayer
pub mod SystemOverLayer
pub mod SpinsOverLayer
pub mod RunsOverLayer
