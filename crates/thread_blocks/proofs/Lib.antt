pub mod Members
pub mod Distinct
pub mod Linking
pub mod Holding
