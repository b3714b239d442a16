pub mod Opening
pub mod OwnedLaws
pub mod Laws
