pub mod Table
pub mod Coupled
pub mod Stored
pub mod Machine
pub mod Laws
