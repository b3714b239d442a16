pub mod Openings
pub mod Parts
pub mod PlaceLaws
pub mod Laws
