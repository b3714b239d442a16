-- What a machine and its parts report, and the view that a layer has of the lower one.
pub mod Acted
pub mod Renaming
pub mod OwnParts
pub mod Owned
pub mod Observed
pub mod Openings
