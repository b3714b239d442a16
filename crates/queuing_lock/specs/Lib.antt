pub mod Nested
pub mod Parts
pub mod Steady
pub mod Laws
