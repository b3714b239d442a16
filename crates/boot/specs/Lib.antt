pub mod Locks
pub mod Plan
pub mod Seen
pub mod Names
