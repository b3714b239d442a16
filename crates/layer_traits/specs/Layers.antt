-- The calls of each layer and its law, from shared queues up to message calls.
pub mod Queues
pub mod Scheds
pub mod Sleeping
pub mod SleepLaw
pub mod QLocking
pub mod QLockLaw
pub mod Conditions
pub mod CvLaw
pub mod BufferLaw
pub mod IpcLaw
