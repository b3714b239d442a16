pub mod Nested
pub mod Parts
pub mod Laws
