pub mod Instructions
pub mod State
pub mod Calls
pub mod Laws
pub mod Language
pub mod Spelling
