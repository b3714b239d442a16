-- The places of threads, and the scheduling operations of a CPU.
pub mod Places
pub mod MoveRules
pub mod Passes
pub mod RunQueue
pub mod OnePlace
pub mod ListsAgree
