pub mod Protocols
pub mod Polling
pub mod Views
pub mod Threads
pub mod Blocks
pub mod Layers
pub mod Laws
