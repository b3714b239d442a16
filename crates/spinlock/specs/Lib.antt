pub mod Stages
pub mod OwnedLaws
pub mod Laws
