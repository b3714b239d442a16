pub mod Views
pub mod Privates
pub mod Composed
pub mod Positions
