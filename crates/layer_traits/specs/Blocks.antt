-- What locks guard: queues, buffers and their contents, and what edits make of it.
pub mod QueueBlocks
pub mod QueueRules
pub mod BufferBlocks
pub mod BufferProtocol
pub mod BufferEffects
pub mod EffectRuns
pub mod Capacities
pub mod Payloads
