pub mod Owns
pub mod Parts
pub mod Laws
